-- No fault stands at the LIDs so far.
use Rattle.std.proofs.Common.{◌≡◌, ◌<◌, ℕ, [], ◌∷◌, Some, None}
use Rattle.std.specs.Prelude.{slice_get}
use Rattle.fab_model.specs.Topology.{lids_of}
use Rattle.fab_tables.specs.First.{FindsFirst, Beneath}
use Rattle.fab_tables.specs.LaneFaults.{IsSoughtAt}
use Rattle.fab_tables.specs.Judged.{IsRoomFor}
use Rattle.fab_tables.proofs.lane_faults.first_lane_fault.Given as goal

abbrev pub invariant-loop-lid : goal.invariant-loop-lid
invariant-loop-lid l =
    IsRoomFor l.fabric l.marks
    × ((k lid : ℕ) → k < l.lid-index → slice_get (lids_of l.fabric) k ≡ Some lid → FindsFirst (Beneath (1 ∷ lid ∷ []) (IsSoughtAt l.faults l.fabric l.tables l.lanes)) None)
