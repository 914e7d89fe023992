-- The LIDs so far have their levels.
use Rattle.std.proofs.Common.{◌≡◌, ◌<◌, ℕ, Some, slice_get, length}
use Rattle.fab_model.specs.Topology.{lids_of}
use Rattle.fab_lash.specs.PairLayers.{layer_at}
use Rattle.fab_lash.specs.Leveling.{IsLeveling, HasLevelsFor, layer_for}
use Rattle.fab_lash.proofs.levels.layer_lanes.Given as goal

abbrev pub invariant-loop-lid : goal.invariant-loop-lid
invariant-loop-lid l = record {
  leveling : IsLeveling l.fabric (layer_for l.fabric (layer_at (length l.fabric.switches) l.layers)) l.lanes;
  count : l.lanes.count ≡ l.count;
  has : (k lid : ℕ) → k < l.lid-index → slice_get (lids_of l.fabric) k ≡ Some lid → HasLevelsFor l.fabric (layer_for l.fabric (layer_at (length l.fabric.switches) l.layers)) l.lanes lid;
}
