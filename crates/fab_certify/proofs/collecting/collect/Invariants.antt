-- The routes to the LIDs so far are collected.
use Rattle.std.proofs.Common.{◌≡◌, ◌<◌, ℕ, Some, slice_get}
use Rattle.fab_model.specs.Topology.{lids_of}
use Rattle.fab_tables.specs.Judged.{IsRoomFor}
use Rattle.fab_certify.specs.Collected.{IsFromRoutes, HasRoutesFor}
use Rattle.fab_certify.proofs.collecting.collect.Given as goal

abbrev pub invariant-loop-lid : goal.invariant-loop-lid
invariant-loop-lid l =
    IsRoomFor l.fabric l.marks × IsFromRoutes l.fabric l.tables l.lanes l.dependencies
    × ((k lid : ℕ) → k < l.lid-index → slice_get (lids_of l.fabric) k ≡ Some lid → HasRoutesFor l.fabric l.tables l.lanes lid l.dependencies)
