use Rattle.std.proofs.Common.{◌≡◌, ◌≤◌, ◌∙◌, None, Some, length, slice_get, slice_index_or, subst, sym, arith}
use Rattle.std.specs.Prelude.{MatchOption}
use Rattle.std.proofs.lemmas.Option.{none-some}
use Rattle.fab_model.specs.Topology.{Topology, lids_of, place_of}
use Rattle.fab_model.proofs.LidsInUse.{numbers_of, as_many, lid_there}
use Rattle.fab_certify.proofs.Collected.CollectingHops.{grows_none, grows_on}
use Rattle.fab_replies.specs.ReplyTo.{HasReply, IsBadReply, HasReplies}
use Rattle.fab_replies.proofs.ReplyFaults.{none_to_lid, first_to_lid}
use Rattle.fab_replies.proofs.ReplyWays.{not_unplaced, not_own, terminals_home, no_terminal}
use Rattle.fab_replies.proofs.Sending.{no_replies, replies_more, has_replies}
use Rattle.fab_replies.proofs.collecting.collect_replies.Goals as goal

pub returns-in_default : goal.returns-in_default
returns-in_default c =
    let none : place_of c.args.reading.now.fabric c.args.lid.0 ≡ None = subst (λ (x : Topology). place_of x c.args.lid.0 ≡ None) c.fabric-fabric.ensures.fabric (sym c.place_of.ensures ∙ c.in_default.is) in
    let has : HasReplies c.args.reading.now.fabric c.args.reading.now.entries c.args.reading.now.lanes c.args.lid.0 c.args.dependencies.now = no_terminal c.args.reading.now.fabric c.fabric-fabric.ensures.kept.fabric c.args.lid.0 c.args.reading.now.entries c.args.reading.now.lanes c.args.dependencies.now (not_unplaced c.args.reading.now.fabric c.fabric-fabric.ensures.kept.fabric c.args.lid.0 none) in
    record {
      fault = none_to_lid c.args.reading.now.fabric c.args.reading.now.entries c.args.reading.now.lanes c.fabric-fabric.ensures.kept.fabric c.args.lid.0 c.args.dependencies.now has;
      room = c.requires.marked.room;
      from_both = c.requires.from_both;
      grows = grows_none c.args.dependencies.now;
      has = λ is. has;
    }

pub returns-then-home-eq0 : goal.returns-then-home-eq0
returns-then-home-eq0 c =
    let home : place_of c.args.reading.now.fabric c.args.lid.0 ≡ Some c.in-Some.home = subst (λ (x : Topology). place_of x c.args.lid.0 ≡ Some c.in-Some.home) c.fabric-fabric.ensures.fabric (sym c.place_of.ensures ∙ c.in-Some.is) in
    let has : HasReplies c.args.reading.now.fabric c.args.reading.now.entries c.args.reading.now.lanes c.args.lid.0 c.args.dependencies.now = no_terminal c.args.reading.now.fabric c.fabric-fabric.ensures.kept.fabric c.args.lid.0 c.args.reading.now.entries c.args.reading.now.lanes c.args.dependencies.now (not_own c.args.reading.now.fabric c.fabric-fabric.ensures.kept.fabric c.args.lid.0 c.in-Some.home home c.if-home-eq0.true) in
    record {
      fault = none_to_lid c.args.reading.now.fabric c.args.reading.now.entries c.args.reading.now.lanes c.fabric-fabric.ensures.kept.fabric c.args.lid.0 c.args.dependencies.now has;
      room = c.requires.marked.room;
      from_both = c.requires.from_both;
      grows = grows_none c.args.dependencies.now;
      has = λ is. has;
    }

pub loop-from-init : goal.loop-from-init
loop-from-init c = (c.requires.marked, no_replies c.args.reading.now.fabric c.args.reading.now.entries c.args.reading.now.lanes c.args.lid.0 c.args.dependencies.now c.requires.from_both)

pub collect_reply-requires-clause-home : goal.collect_reply-requires-clause-home
collect_reply-requires-clause-home c =
    let home : place_of c.args.reading.now.fabric c.args.lid.0 ≡ Some c.in-Some.home = subst (λ (x : Topology). place_of x c.args.lid.0 ≡ Some c.in-Some.home) c.fabric-fabric.ensures.fabric (sym c.place_of.ensures ∙ c.in-Some.is) in
    terminals_home c.args.reading.now.fabric c.fabric-fabric.ensures.kept.fabric c.args.lid.0 c.in-Some.home home c.if-home-eq0.false

pub loop-from-preserved : goal.loop-from-preserved
loop-from-preserved c =
    let lids = c.lids_in_use-from-items.result.now in
    let are : numbers_of lids ≡ lids_of c.args.reading.now.fabric = subst (λ (x : Topology). numbers_of lids ≡ lids_of x) c.fabric-fabric.ensures.fabric c.lids_in_use-from-items.ensures.lids in
    let from = slice_index_or lids c.loop-from.from-index (record { 0 = 0 }) in
    let at : slice_get (lids_of c.args.reading.now.fabric) c.loop-from.from-index ≡ Some from.0 = lid_there lids (lids_of c.args.reading.now.fabric) are c.loop-from.from-index (record { 0 = 0 }) c.loop-from-test.true in
    let told = c.in_ok-at.ensures in
    let has : HasReply c.args.reading.now.fabric c.args.reading.now.entries c.args.reading.now.lanes c.args.lid.0 from.0 c.collect_reply.new.dependencies =
    subst (λ o. MatchOption o (HasReply c.args.reading.now.fabric c.args.reading.now.entries c.args.reading.now.lanes c.args.lid.0 from.0 c.collect_reply.new.dependencies) (IsBadReply c.args.reading.now.fabric c.args.reading.now.entries c.args.reading.now.lanes c.args.lid.0 from.0)) c.in_default-2.is told.reply in (
      told.marked c.in_default-2.is,
      replies_more c.args.reading.now.fabric c.args.reading.now.entries c.args.reading.now.lanes c.args.lid.0 c.loop-from.from-index from.0 at c.args.dependencies.now c.loop-from.dependencies c.collect_reply.new.dependencies c.loop-from.invariant.1 told.from_both told.grows has,
    )

pub returns-in-Some-2 : goal.returns-in-Some-2
returns-in-Some-2 c =
    let lids = c.lids_in_use-from-items.result.now in
    let are : numbers_of lids ≡ lids_of c.args.reading.now.fabric = subst (λ (x : Topology). numbers_of lids ≡ lids_of x) c.fabric-fabric.ensures.fabric c.lids_in_use-from-items.ensures.lids in
    let from = slice_index_or lids c.loop-from.from-index (record { 0 = 0 }) in
    let at : slice_get (lids_of c.args.reading.now.fabric) c.loop-from.from-index ≡ Some from.0 = lid_there lids (lids_of c.args.reading.now.fabric) are c.loop-from.from-index (record { 0 = 0 }) c.loop-from-test.true in
    let told = c.in_ok-at.ensures in
    let bad : IsBadReply c.args.reading.now.fabric c.args.reading.now.entries c.args.reading.now.lanes c.args.lid.0 from.0 c.in-Some-2.at =
    subst (λ o. MatchOption o (HasReply c.args.reading.now.fabric c.args.reading.now.entries c.args.reading.now.lanes c.args.lid.0 from.0 c.collect_reply.new.dependencies) (IsBadReply c.args.reading.now.fabric c.args.reading.now.entries c.args.reading.now.lanes c.args.lid.0 from.0)) c.in-Some-2.is told.reply in
    record {
      fault = first_to_lid c.args.reading.now.fabric c.args.reading.now.entries c.args.reading.now.lanes c.fabric-fabric.ensures.kept.fabric c.args.lid from c.loop-from.from-index at c.args.dependencies.now c.loop-from.dependencies c.loop-from.invariant.1 c.in-Some-2.at bad;
      room = told.room;
      from_both = told.from_both;
      grows = grows_on c.args.dependencies.now c.loop-from.dependencies c.collect_reply.new.dependencies c.loop-from.invariant.1.grows told.grows;
      has = λ is. absurd (none-some _ (sym is));
    }

pub returns : goal.returns
returns c =
    let lids = c.lids_in_use-from-items.result.now in
    let are : numbers_of lids ≡ lids_of c.args.reading.now.fabric = subst (λ (x : Topology). numbers_of lids ≡ lids_of x) c.fabric-fabric.ensures.fabric c.lids_in_use-from-items.ensures.lids in
    let all : length (lids_of c.args.reading.now.fabric) ≤ c.loop-from.from-index = omega (arith, c.loop-from-test.false, as_many lids (lids_of c.args.reading.now.fabric) are) in
    let has : HasReplies c.args.reading.now.fabric c.args.reading.now.entries c.args.reading.now.lanes c.args.lid.0 c.loop-from.dependencies = has_replies c.args.reading.now.fabric c.args.reading.now.entries c.args.reading.now.lanes c.args.lid.0 c.args.dependencies.now c.loop-from.dependencies c.loop-from.from-index c.loop-from.invariant.1 all in
    record {
      fault = none_to_lid c.args.reading.now.fabric c.args.reading.now.entries c.args.reading.now.lanes c.fabric-fabric.ensures.kept.fabric c.args.lid.0 c.loop-from.dependencies has;
      room = c.loop-from.invariant.0.room;
      from_both = c.loop-from.invariant.1.from_both;
      grows = c.loop-from.invariant.1.grows;
      has = λ is. has;
    }
