-- The counts over the LIDs so far.
use Rattle.std.proofs.Common.{◌≡◌, ◌≤◌, ◌*◌, ℕ, Bool, take}
use Rattle.std.specs.Prelude.{sum_by}
use Rattle.fab_model.specs.Topology.{lids_of}
use Rattle.fab_sweep.specs.Sweeps.{TellsConnected, is_lost, is_changed, is_moved, count_to}
use Rattle.fab_sweep.proofs.costs.costs_of.Given as goal

abbrev pub invariant-loop-lid : goal.invariant-loop-lid
invariant-loop-lid l = record {
  lost : (was is : ℕ → ℕ → Bool) → TellsConnected l.before was → TellsConnected l.after is → l.lost ≡ sum_by (λ lid. count_to l.fabric (is_lost l.fabric was is) lid) (take l.lid-index (lids_of l.fabric));
  changed : l.changed ≡ sum_by (λ lid. count_to l.fabric (is_changed l.plan.tables l.repaired.tables) lid) (take l.lid-index (lids_of l.fabric));
  moved : (is : ℕ → ℕ → Bool) → TellsConnected l.after is → l.moved ≡ sum_by (λ lid. count_to l.fabric (is_moved l.fabric is l.plan.lanes l.repaired.lanes) lid) (take l.lid-index (lids_of l.fabric));
  few_lost : l.lost ≤ l.lid-index * 2048;
  few_changed : l.changed ≤ l.lid-index * 2048;
  few_moved : l.moved ≤ l.lid-index * 2048;
}
