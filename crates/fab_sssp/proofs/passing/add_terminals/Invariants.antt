-- No switch so far is pending alone.
use Rattle.std.proofs.Common.{◌≡◌, ◌≢◌, ◌<◌, ℕ, length}
use Rattle.std.specs.Prelude.{slice_index}
use Rattle.fab_sssp.specs.Passing.{IsPassing, KeepsTotals}
use Rattle.fab_sssp.proofs.passing.add_terminals.Given as goal

abbrev pub invariant-loop-s : goal.invariant-loop-s
invariant-loop-s l = record {
  weights : length l.weights ≡ length l.fabric.channels;
  passing : IsPassing l.fabric l.tree l.arrived l.pending;
  totals : KeepsTotals l.fabric l.tree l.initial.weights l.initial.arrived l.weights l.arrived;
  none_alone : (s : ℕ) → s < l.s → slice_index l.pending s ≢ 1;
}
