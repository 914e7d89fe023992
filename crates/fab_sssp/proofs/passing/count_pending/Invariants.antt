-- So far each switch has the switches that were looked at and lead to it.
use Rattle.std.proofs.Common.{◌≡◌, ◌+◌, ◌<◌, ℕ, length}
use Rattle.std.specs.Prelude.{slice_index}
use Rattle.fab_sssp.specs.Passing.{leading_to}
use Rattle.fab_sssp.proofs.passing.count_pending.Given as goal

abbrev pub invariant-loop-s : goal.invariant-loop-s
invariant-loop-s l =
    (length l.pending ≡ length l.fabric.switches) × ((s : ℕ) → s < length l.fabric.switches → slice_index l.pending s ≡ 1 + leading_to l.fabric l.tree s l.s)
