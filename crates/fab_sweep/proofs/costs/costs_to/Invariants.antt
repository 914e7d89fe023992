-- The counts over the switches so far.
use Rattle.std.proofs.Common.{◌≡◌, ◌≤◌, ℕ, Bool}
use Rattle.fab_sweep.specs.Sweeps.{TellsConnected, is_lost, is_changed, is_moved, count_below}
use Rattle.fab_sweep.proofs.costs.costs_to.Given as goal

abbrev pub invariant-loop-index : goal.invariant-loop-index
invariant-loop-index l = record {
  lost : (was is : ℕ → ℕ → Bool) → TellsConnected l.before was → TellsConnected l.after is → l.lost ≡ count_below (is_lost l.fabric was is) l.lid.0 l.index;
  changed : l.changed ≡ count_below (is_changed l.plan.tables l.repaired.tables) l.lid.0 l.index;
  moved : (is : ℕ → ℕ → Bool) → TellsConnected l.after is → l.moved ≡ count_below (is_moved l.fabric is l.plan.lanes l.repaired.lanes) l.lid.0 l.index;
  few_lost : l.lost ≤ l.index;
  few_changed : l.changed ≤ l.index;
  few_moved : l.moved ≤ l.index;
}
