use Rattle.std.proofs.Common.{◌≡◌, [], None, Some, subst, sym, ◌∙◌}
use Rattle.std.specs.Prelude.{IfOk, MatchOption}
use Rattle.std.proofs.lemmas.List.{nil_from_length}
use Rattle.std.proofs.lemmas.Result.{IfOk-weaker}
use Rattle.fab_certify.proofs.Collected.CollectingHops.{grows_none}
use Rattle.fab_certify.proofs.Collected.MarksSet.{room_for}
use Rattle.fab_replies.specs.Jointly.{hops_of, AreMarked, AreDone, IsFirstBad}
use Rattle.fab_replies.specs.ReplyTo.{HasReply, IsBadReply, FindsReplyWay}
use Rattle.fab_replies.proofs.Sending.{no_reply, reply_told}
use Rattle.fab_replies.proofs.WayHops.{marked_done}
use Rattle.fab_replies.proofs.collecting.collect_reply.Goals as goal

pub is_marked-requires : goal.is_marked-requires
is_marked-requires c =
    let found : FindsReplyWay c.args.reading.now.fabric c.args.reading.now.entries c.args.reading.now.lanes c.args.lid.0 c.args.from.0 (Some c.in-Some.way) = subst (FindsReplyWay c.args.reading.now.fabric c.args.reading.now.entries c.args.reading.now.lanes c.args.lid.0 c.args.from.0) c.in-Some.is c.reply_way.ensures in
    room_for c.args.reading.now.fabric c.args.marks.now c.in-Some.way.start.switch.0 c.in-Some.way.level c.requires.marked.room found.0.switch found.0.level

pub returns-then-is_marked-clause-reply : goal.returns-then-is_marked-clause-reply
returns-then-is_marked-clause-reply c =
    let found : FindsReplyWay c.args.reading.now.fabric c.args.reading.now.entries c.args.reading.now.lanes c.args.lid.0 c.args.from.0 (Some c.in-Some.way) = subst (FindsReplyWay c.args.reading.now.fabric c.args.reading.now.entries c.args.reading.now.lanes c.args.lid.0 c.args.from.0) c.in-Some.is c.reply_way.ensures in
    let marked : AreMarked c.args.reading.now.fabric c.args.reading.now.entries c.args.reading.now.lanes c.in-Some.way.lid.0 c.args.marks.now c.args.dependencies.now = subst (λ n. AreMarked c.args.reading.now.fabric c.args.reading.now.entries c.args.reading.now.lanes n c.args.marks.now c.args.dependencies.now) (sym found.1) c.requires.marked in
    let none : c.args.reading.now.lanes.pairs ≡ [] = nil_from_length c.args.reading.now.lanes.pairs (sym c.pairs.ensures ∙ c.if-pairs-eq0.true) in
    reply_told c.args.reading.now.fabric c.args.reading.now.entries c.args.reading.now.lanes c.args.lid.0 c.args.from.0 c.in-Some.way c.args.dependencies.now None found
    (marked_done c.args.reading.now.fabric c.args.reading.now.entries c.args.reading.now.lanes c.in-Some.way c.args.marks.now c.args.dependencies.now found.0 marked none (sym c.is_marked.ensures ∙ c.if-is_marked.true))

pub collect_hops-requires-clause-way : goal.collect_hops-requires-clause-way
collect_hops-requires-clause-way c =
    let found : FindsReplyWay c.args.reading.now.fabric c.args.reading.now.entries c.args.reading.now.lanes c.args.lid.0 c.args.from.0 (Some c.in-Some.way) = subst (FindsReplyWay c.args.reading.now.fabric c.args.reading.now.entries c.args.reading.now.lanes c.args.lid.0 c.args.from.0) c.in-Some.is c.reply_way.ensures in
    found.0

pub collect_hops-requires-clause-marked : goal.collect_hops-requires-clause-marked
collect_hops-requires-clause-marked c =
    let found : FindsReplyWay c.args.reading.now.fabric c.args.reading.now.entries c.args.reading.now.lanes c.args.lid.0 c.args.from.0 (Some c.in-Some.way) = subst (FindsReplyWay c.args.reading.now.fabric c.args.reading.now.entries c.args.reading.now.lanes c.args.lid.0 c.args.from.0) c.in-Some.is c.reply_way.ensures in
    subst (λ n. AreMarked c.args.reading.now.fabric c.args.reading.now.entries c.args.reading.now.lanes n c.args.marks.now c.args.dependencies.now) (sym found.1) c.requires.marked

pub returns-clause-marked : goal.returns-clause-marked
returns-clause-marked c =
    let found : FindsReplyWay c.args.reading.now.fabric c.args.reading.now.entries c.args.reading.now.lanes c.args.lid.0 c.args.from.0 (Some c.in-Some.way) = subst (FindsReplyWay c.args.reading.now.fabric c.args.reading.now.entries c.args.reading.now.lanes c.args.lid.0 c.args.from.0) c.in-Some.is c.reply_way.ensures in
    subst (λ n. IfOk c.collect_hops.result (λ bad. bad ≡ None → AreMarked c.args.reading.now.fabric c.args.reading.now.entries c.args.reading.now.lanes n c.collect_hops.new.marks c.collect_hops.new.dependencies)) found.1 c.collect_hops.ensures.marked

pub returns-clause-reply : goal.returns-clause-reply
returns-clause-reply c =
    let found : FindsReplyWay c.args.reading.now.fabric c.args.reading.now.entries c.args.reading.now.lanes c.args.lid.0 c.args.from.0 (Some c.in-Some.way) = subst (FindsReplyWay c.args.reading.now.fabric c.args.reading.now.entries c.args.reading.now.lanes c.args.lid.0 c.args.from.0) c.in-Some.is c.reply_way.ensures in
    let hops = hops_of c.args.reading.now.fabric c.args.reading.now.entries c.args.reading.now.lanes c.in-Some.way in
    IfOk-weaker c.collect_hops.result (λ bad. MatchOption bad (AreDone c.args.reading.now.lanes hops c.collect_hops.new.dependencies) (IsFirstBad c.args.reading.now.fabric c.args.reading.now.lanes hops))
    (λ bad. MatchOption bad (HasReply c.args.reading.now.fabric c.args.reading.now.entries c.args.reading.now.lanes c.args.lid.0 c.args.from.0 c.collect_hops.new.dependencies) (IsBadReply c.args.reading.now.fabric c.args.reading.now.entries c.args.reading.now.lanes c.args.lid.0 c.args.from.0))
    (λ bad told. reply_told c.args.reading.now.fabric c.args.reading.now.entries c.args.reading.now.lanes c.args.lid.0 c.args.from.0 c.in-Some.way c.collect_hops.new.dependencies bad found told) c.collect_hops.ensures.hops

pub returns-in_default-clause-reply : goal.returns-in_default-clause-reply
returns-in_default-clause-reply c = no_reply c.args.reading.now.fabric c.args.reading.now.entries c.args.reading.now.lanes c.args.lid.0 c.args.from.0 c.args.dependencies.now (subst (FindsReplyWay c.args.reading.now.fabric c.args.reading.now.entries c.args.reading.now.lanes c.args.lid.0 c.args.from.0) c.in_default.is c.reply_way.ensures)
