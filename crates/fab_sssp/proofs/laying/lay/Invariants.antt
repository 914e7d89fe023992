-- The LIDs so far are laid.
use Rattle.std.proofs.Common.{◌≡◌, length}
use Rattle.fab_sssp.proofs.Tables.LaidLids.{IsLaying}
use Rattle.fab_sssp.proofs.laying.lay.Given as goal

abbrev pub invariant-loop-lid : goal.invariant-loop-lid
invariant-loop-lid l = (length l.tree ≡ length l.fabric.switches) × IsLaying l.fabric l.tables l.weights l.lid-index
