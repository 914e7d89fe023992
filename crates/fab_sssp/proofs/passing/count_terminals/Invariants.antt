-- So far each switch has the terminals that were looked at.
use Rattle.std.proofs.Common.{◌≡◌, ◌<◌, ℕ, length, take}
use Rattle.std.specs.Prelude.{slice_index}
use Rattle.fab_sssp.proofs.Raising.PassingCounts.{on_switch}
use Rattle.fab_sssp.proofs.passing.count_terminals.Given as goal

abbrev pub invariant-loop-number : goal.invariant-loop-number
invariant-loop-number l =
    (length l.arrived ≡ length l.fabric.switches) × ((s : ℕ) → s < length l.fabric.switches → slice_index l.arrived s ≡ on_switch (take l.number l.fabric.terminals) s)
