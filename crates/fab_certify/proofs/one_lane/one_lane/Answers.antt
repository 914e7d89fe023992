use Rattle.std.proofs.Common.{arith, slice_index_or}
use Rattle.fab_model.specs.Topology.{lids_of}
use Rattle.fab_model.proofs.LidsInUse.{as_many, lid_there, contains_lid}
use Rattle.fab_certify.proofs.Engines.OneLane.{leveling_begins, one_lid_leveled, is_one_lane}
use Rattle.fab_certify.proofs.one_lane.one_lane.Goals as goal

pub loop-lid-init : goal.loop-lid-init
loop-lid-init c = (leveling_begins c.args.fabric.now c.in_ok-lanes.lanes c.in_ok-lanes.ensures, λ k lid low at s source connected. absurd (omega arith))

pub set_levels-requires-clause-in_use : goal.set_levels-requires-clause-in_use
set_levels-requires-clause-in_use c = contains_lid c.lids_in_use-lid-items.result.now (lids_of c.args.fabric.now) c.lids_in_use-lid-items.ensures.lids c.loop-lid.lid-index (record { 0 = 0 }) c.loop-lid-test.true

pub loop-lid-preserved : goal.loop-lid-preserved
loop-lid-preserved c =
    let t = c.args.fabric.now in
    let told = c.set_levels.ensures in
    let lids = c.lids_in_use-lid-items.result.now in
    let lid = slice_index_or lids c.loop-lid.lid-index (record { 0 = 0 }) in (
      told.after,
      one_lid_leveled t c.loop-lid.lid-index lid.0 c.loop-lid.lanes c.set_levels.new.lanes
          (lid_there lids (lids_of t) c.lids_in_use-lid-items.ensures.lids c.loop-lid.lid-index (record { 0 = 0 }) c.loop-lid-test.true) c.loop-lid.invariant.1 told.kept told.has,
    )

pub returns : goal.returns
returns c =
    is_one_lane c.args.fabric.now c.loop-lid.lanes c.loop-lid.invariant.0
    (λ k lid low at. c.loop-lid.invariant.1 k lid (omega (arith, low, c.loop-lid-test.false, as_many c.lids_in_use-lid-items.result.now (lids_of c.args.fabric.now) c.lids_in_use-lid-items.ensures.lids)) at)
