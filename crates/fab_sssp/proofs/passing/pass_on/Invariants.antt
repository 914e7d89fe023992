-- Of the switches that alone are pending, the one that was reached is the only new one.
use Rattle.std.proofs.Common.{◌≡◌, ◌≢◌, ◌<◌, ℕ, length, sum}
use Rattle.std.specs.Prelude.{slice_index}
use Rattle.fab_sssp.specs.Passing.{IsPassing, KeepsTotals}
use Rattle.fab_sssp.proofs.passing.pass_on.Given as goal

abbrev pub invariant-loop-pending : goal.invariant-loop-pending
invariant-loop-pending l = record {
  low : l.at.0 < length l.fabric.switches;
  weights : length l.weights ≡ length l.fabric.channels;
  passing : IsPassing l.fabric l.tree l.arrived l.pending;
  totals : KeepsTotals l.fabric l.tree l.fn.weights l.fn.arrived l.weights l.arrived;
  ready : (s : ℕ) → s ≢ l.at.0 → slice_index l.pending s ≡ 1 → (slice_index l.fn.pending s ≡ 1) × (s ≢ l.fn.from.0);
}

abbrev pub decreases-loop-pending : goal.decreases-loop-pending
decreases-loop-pending l = sum l.pending
