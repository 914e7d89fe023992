use Rattle.std.proofs.Common.{◌∙◌, sym}
use Rattle.fab_replies.proofs.Sending.{packet_way, packets_done, unleveled}
use Rattle.fab_replies.proofs.collecting.collect_from.Goals as goal

pub collect_hops-requires-clause-way : goal.collect_hops-requires-clause-way
collect_hops-requires-clause-way c = packet_way c.args.reading.now.fabric c.args.reading.now.entries c.args.reading.now.lanes c.args.start c.requires.terminal c.requires.switch c.level.ensures.kept.lanes c.requires.sound c.args.lid c.requires.in_use c.requires.connected c.in-Some.level (sym c.level.ensures.level ∙ c.in-Some.is)

pub returns-in_default-clause-has : goal.returns-in_default-clause-has
returns-in_default-clause-has c = unleveled c.args.reading.now.fabric c.args.reading.now.entries c.args.reading.now.lanes c.requires.sound c.args.lid.0 c.args.start c.args.dependencies.now (sym c.level.ensures.level ∙ c.in_default.is)

pub returns : goal.returns
returns c =
    let bad = c.in_ok-collect_hops.field-0 in
    let told = c.in_ok-collect_hops.ensures in
    let done = packets_done c.args.reading.now.fabric c.args.reading.now.entries c.args.reading.now.lanes c.args.start c.requires.terminal c.requires.switch c.level.ensures.kept.lanes c.requires.sound c.args.lid c.requires.in_use c.requires.connected c.in-Some.level (sym c.level.ensures.level ∙ c.in-Some.is) c.collect_hops.new.dependencies bad told.hops in
    record { from_both = told.from_both; grows = told.grows; marked = told.marked done.0; has = done.1 }
