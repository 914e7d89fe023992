-- The LIDs so far have their levels.
use Rattle.std.proofs.Common.{◌≡◌, ◌<◌, ℕ, Some, slice_get}
use Rattle.fab_model.specs.Topology.{lids_of}
use Rattle.fab_certify.specs.OneLane.{IsLeveling, HasLevelsFor}
use Rattle.fab_certify.proofs.one_lane.one_lane.Given as goal

abbrev pub invariant-loop-lid : goal.invariant-loop-lid
invariant-loop-lid l = IsLeveling l.fabric l.lanes × ((k lid : ℕ) → k < l.lid-index → slice_get (lids_of l.fabric) k ≡ Some lid → HasLevelsFor l.fabric l.lanes lid)
