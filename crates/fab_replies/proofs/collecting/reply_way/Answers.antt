use Rattle.std.proofs.Common.{◌≡◌, ◌∙◌, sym, subst, Some}
use Rattle.std.proofs.lemmas.Bool.{both_ways}
use Rattle.fab_model.specs.Topology.{Topology, place_of}
use Rattle.fab_replies.proofs.ReplyWays.{source_low, none_apart, reply_found}
use Rattle.fab_replies.proofs.collecting.reply_way.Goals as goal

pub are_connected-requires-clause-second : goal.are_connected-requires-clause-second
are_connected-requires-clause-second c =
    let at : place_of c.args.reading.now.fabric c.args.from.0 ≡ Some c.in_ok-source.source = subst (λ (x : Topology). place_of x c.args.from.0 ≡ Some c.in_ok-source.source) c.fabric.ensures.fabric (sym c.place_of.ensures ∙ c.in_ok-source.was) in
    source_low c.args.reading.now.fabric c.args.reading.now.entries c.args.reading.now.lanes c.fabric.ensures.kept.fabric c.args.lid c.args.home.0 c.args.from.0 c.requires.home c.in_ok-source.source at

pub returns-then-not-are_connected : goal.returns-then-not-are_connected
returns-then-not-are_connected c =
    let at : place_of c.args.reading.now.fabric c.args.from.0 ≡ Some c.in_ok-source.source = subst (λ (x : Topology). place_of x c.args.from.0 ≡ Some c.in_ok-source.source) c.fabric.ensures.fabric (sym c.place_of.ensures ∙ c.in_ok-source.was) in
    none_apart c.args.reading.now.fabric c.args.reading.now.entries c.args.reading.now.lanes c.fabric.ensures.kept.fabric c.args.lid c.args.home.0 c.args.from.0 c.requires.home c.in_ok-source.source at (λ joined. both_ways c.are_connected.result c.if-not-are_connected.true (c.are_connected.ensures.1 joined))

pub returns : goal.returns
returns c =
    let at : place_of c.args.reading.now.fabric c.args.from.0 ≡ Some c.in_ok-source.source = subst (λ (x : Topology). place_of x c.args.from.0 ≡ Some c.in_ok-source.source) c.fabric.ensures.fabric (sym c.place_of.ensures ∙ c.in_ok-source.was) in
    reply_found c.args.reading.now.fabric c.args.reading.now.entries c.args.reading.now.lanes c.fabric.ensures.kept.fabric c.args.lid c.args.home.0 c.args.from.0 c.requires.home c.in_ok-source.source at c.requires.sound c.fabric.ensures.kept.lanes (c.are_connected.ensures.0 c.if-not-are_connected.false) c.in_ok-level.level (sym c.level.ensures.level ∙ c.in_ok-level.was)
