use Rattle.std.proofs.Common.{◌≡◌, [], ◌∷◌, ◌≤◌, ◌∙◌, Bool, false, Some, length, replicate, slice_get, slice_index_or, ap, subst, arith}
use Rattle.fab_model.specs.Topology.{Topology, lids_of}
use Rattle.fab_model.proofs.LidsInUse.{numbers_of, as_many, lid_there, contains_lid}
use Rattle.fab_tables.specs.First.{IsFirst, FindsFirst, Beneath}
use Rattle.fab_tables.specs.Judged.{IsRoomFor}
use Rattle.fab_replies.specs.Answers.{IsFaultAt}
use Rattle.fab_replies.proofs.ReplyFaults.{first_of_all}
use Rattle.fab_replies.proofs.Sending.{from_neither, none_marked, none_to, one_lid_more, good_replies, are_jointly}
use Rattle.fab_replies.proofs.collecting.collect.Goals as goal

pub loop-lid-init : goal.loop-lid-init
loop-lid-init c =
    let room : IsRoomFor c.args.reading.now.fabric c.in_ok-marks.marks = subst (λ (x : Topology). IsRoomFor x c.in_ok-marks.marks) c.fabric-fabric.ensures.fabric c.in_ok-marks.ensures in
    none_to c.args.reading.now.fabric c.args.reading.now.entries c.args.reading.now.lanes c.in_ok-marks.marks c.in_ok-dependencies.dependencies room
    (from_neither c.args.reading.now.fabric c.args.reading.now.entries c.args.reading.now.lanes c.in_ok-dependencies.dependencies (c.in_ok-dependencies.ensures.used ∙ ap (λ n. replicate {A = Bool} n false) c.virtual_channels.ensures) c.in_ok-dependencies.ensures.pairs)

pub collect_packets-requires-clause-in_use : goal.collect_packets-requires-clause-in_use
collect_packets-requires-clause-in_use c =
    let lids = c.lids_in_use-lid-items.result.now in
    let are : numbers_of lids ≡ lids_of c.args.reading.now.fabric = subst (λ (x : Topology). numbers_of lids ≡ lids_of x) c.fabric-fabric.ensures.fabric c.lids_in_use-lid-items.ensures.lids in
    contains_lid lids (lids_of c.args.reading.now.fabric) are c.loop-lid.lid-index (record { 0 = 0 }) c.loop-lid-test.true

pub collect_packets-requires-clause-marked : goal.collect_packets-requires-clause-marked
collect_packets-requires-clause-marked c =
    let lid = slice_index_or c.lids_in_use-lid-items.result.now c.loop-lid.lid-index (record { 0 = 0 }) in
    rw c.clear.ensures (none_marked c.args.reading.now.fabric c.args.reading.now.entries c.args.reading.now.lanes lid.0 c.loop-lid.marks c.loop-lid.dependencies c.loop-lid.invariant.room)

pub collect_replies-requires-clause-in_use : goal.collect_replies-requires-clause-in_use
collect_replies-requires-clause-in_use c =
    let lids = c.lids_in_use-lid-items.result.now in
    let are : numbers_of lids ≡ lids_of c.args.reading.now.fabric = subst (λ (x : Topology). numbers_of lids ≡ lids_of x) c.fabric-fabric.ensures.fabric c.lids_in_use-lid-items.ensures.lids in
    contains_lid lids (lids_of c.args.reading.now.fabric) are c.loop-lid.lid-index (record { 0 = 0 }) c.loop-lid-test.true

pub loop-lid-preserved : goal.loop-lid-preserved
loop-lid-preserved c =
    let lids = c.lids_in_use-lid-items.result.now in
    let are : numbers_of lids ≡ lids_of c.args.reading.now.fabric = subst (λ (x : Topology). numbers_of lids ≡ lids_of x) c.fabric-fabric.ensures.fabric c.lids_in_use-lid-items.ensures.lids in
    let lid = slice_index_or lids c.loop-lid.lid-index (record { 0 = 0 }) in
    let at : slice_get (lids_of c.args.reading.now.fabric) c.loop-lid.lid-index ≡ Some lid.0 = lid_there lids (lids_of c.args.reading.now.fabric) are c.loop-lid.lid-index (record { 0 = 0 }) c.loop-lid-test.true in
    let packets = c.in_ok-collect_packets.ensures in
    let replies = c.in_ok-fault.ensures in
    one_lid_more c.args.reading.now.fabric c.args.reading.now.entries c.args.reading.now.lanes c.loop-lid.lid-index lid.0 at c.loop-lid.marks c.loop-lid.dependencies c.loop-lid.invariant c.collect_packets.new.dependencies c.collect_replies.new.dependencies packets.grows replies.grows
    c.collect_replies.new.marks replies.room replies.from_both packets.has (replies.has c.in_default.is)

pub returns-in-Some : goal.returns-in-Some
returns-in-Some c =
    let lids = c.lids_in_use-lid-items.result.now in
    let are : numbers_of lids ≡ lids_of c.args.reading.now.fabric = subst (λ (x : Topology). numbers_of lids ≡ lids_of x) c.fabric-fabric.ensures.fabric c.lids_in_use-lid-items.ensures.lids in
    let lid = slice_index_or lids c.loop-lid.lid-index (record { 0 = 0 }) in
    let at : slice_get (lids_of c.args.reading.now.fabric) c.loop-lid.lid-index ≡ Some lid.0 = lid_there lids (lids_of c.args.reading.now.fabric) are c.loop-lid.lid-index (record { 0 = 0 }) c.loop-lid-test.true in
    let first : IsFirst (Beneath (lid.0 ∷ []) (IsFaultAt c.args.reading.now.fabric c.args.reading.now.entries c.args.reading.now.lanes)) c.in-Some.fault = subst (FindsFirst (Beneath (lid.0 ∷ []) (IsFaultAt c.args.reading.now.fabric c.args.reading.now.entries c.args.reading.now.lanes))) c.in-Some.is c.in_ok-fault.ensures.fault in
    first_of_all c.args.reading.now.fabric c.args.reading.now.entries c.args.reading.now.lanes c.fabric-fabric.ensures.kept.fabric c.loop-lid.marks c.loop-lid.dependencies c.loop-lid.lid-index lid.0 at c.loop-lid.invariant c.in-Some.fault first

pub returns : goal.returns
returns c =
    let lids = c.lids_in_use-lid-items.result.now in
    let are : numbers_of lids ≡ lids_of c.args.reading.now.fabric = subst (λ (x : Topology). numbers_of lids ≡ lids_of x) c.fabric-fabric.ensures.fabric c.lids_in_use-lid-items.ensures.lids in
    let all : length (lids_of c.args.reading.now.fabric) ≤ c.loop-lid.lid-index = omega (arith, c.loop-lid-test.false, as_many lids (lids_of c.args.reading.now.fabric) are) in (
      good_replies c.args.reading.now.fabric c.args.reading.now.entries c.args.reading.now.lanes c.loop-lid.marks c.loop-lid.dependencies c.loop-lid.lid-index c.loop-lid.invariant all c.fabric-fabric.ensures.kept.fabric,
      are_jointly c.args.reading.now.fabric c.args.reading.now.entries c.args.reading.now.lanes c.loop-lid.marks c.loop-lid.dependencies c.loop-lid.lid-index c.loop-lid.invariant all c.fabric-fabric.ensures.kept.fabric,
    )
