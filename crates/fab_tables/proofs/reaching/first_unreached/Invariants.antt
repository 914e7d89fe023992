-- No fault stands at the LIDs so far.
use Rattle.std.proofs.Common.{◌≡◌, ◌<◌, ℕ, [], ◌∷◌, Some, None, length}
use Rattle.std.specs.Prelude.{slice_get}
use Rattle.fab_model.specs.Topology.{lids_of}
use Rattle.fab_tables.specs.Verdicts.{IsFaultAt}
use Rattle.fab_tables.specs.First.{FindsFirst, Beneath}
use Rattle.fab_tables.proofs.reaching.first_unreached.Given as goal

abbrev pub invariant-loop-lid : goal.invariant-loop-lid
invariant-loop-lid l =
    (length l.delivered ≡ length l.fabric.switches)
    × ((k lid : ℕ) → k < l.lid-index → slice_get (lids_of l.fabric) k ≡ Some lid → FindsFirst (Beneath (0 ∷ lid ∷ []) (IsFaultAt l.fabric l.tables None)) None)
