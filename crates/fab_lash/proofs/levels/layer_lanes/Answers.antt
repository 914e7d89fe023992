use Rattle.std.proofs.Common.{◌∙◌, length, slice_index_or, arith}
use Rattle.fab_model.specs.Topology.{lids_of}
use Rattle.fab_model.proofs.LidsInUse.{as_many, lid_there}
use Rattle.fab_lash.specs.Leveling.{layer_for}
use Rattle.fab_lash.specs.PairLayers.{layer_at}
use Rattle.fab_lash.proofs.LayerLevels.{leveling_begins, one_lid_leveled, layers_are_levels}
use Rattle.fab_lash.proofs.levels.layer_lanes.Goals as goal

pub loop-lid-init : goal.loop-lid-init
loop-lid-init c = record {
  leveling = leveling_begins c.args.fabric.now _ c.args.count c.in_ok-lanes.lanes c.in_ok-lanes.ensures;
  count = c.in_ok-lanes.ensures.lane_count;
  has = λ k lid low at s source connected. absurd (omega (arith, low));
}

pub set_levels-requires-clause-below : goal.set_levels-requires-clause-below
set_levels-requires-clause-below c a b joined = omega (arith, c.requires.below a b joined, c.loop-lid.invariant.count)

pub loop-lid-preserved : goal.loop-lid-preserved
loop-lid-preserved c =
    let t = c.args.fabric.now in
    let told = c.set_levels.ensures in
    let lids = c.lids_in_use-lid-items.result.now in
    let lid = slice_index_or lids c.loop-lid.lid-index (record { 0 = 0 }) in
    record {
      leveling = told.after;
      count = told.count ∙ c.loop-lid.invariant.count;
      has = one_lid_leveled t (layer_for t (layer_at (length t.switches) c.args.layers.now)) c.loop-lid.lid-index lid.0 c.loop-lid.lanes c.set_levels.new.lanes
          (lid_there lids (lids_of t) c.lids_in_use-lid-items.ensures.lids c.loop-lid.lid-index (record { 0 = 0 }) c.loop-lid-test.true) c.loop-lid.invariant.has told.kept told.has;
    }

pub returns-clause-levels : goal.returns-clause-levels
returns-clause-levels c =
    layers_are_levels c.args.fabric.now (layer_at (length c.args.fabric.now.switches) c.args.layers.now) c.loop-lid.lanes c.loop-lid.invariant.leveling
    (λ k lid low at. c.loop-lid.invariant.has k lid (omega (arith, low, c.loop-lid-test.false, as_many c.lids_in_use-lid-items.result.now (lids_of c.args.fabric.now) c.lids_in_use-lid-items.ensures.lids)) at)
