-- The switches so far are laid.
use Rattle.std.proofs.Common.{◌≡◌, ◌<◌, ℕ, length}
use Rattle.fab_tables.specs.Fit.{EntriesFit}
use Rattle.fab_sssp.specs.WeightTables.{weight_of}
use Rattle.fab_sssp.specs.Laying.{IsLaidAt, KeepsOtherLids}
use Rattle.fab_sssp.proofs.laying.lay_lid.Given as goal

abbrev pub invariant-loop-s : goal.invariant-loop-s
invariant-loop-s l = record {
  tree : length l.tree ≡ length l.fabric.switches;
  fits : EntriesFit l.fabric l.tables;
  others : KeepsOtherLids l.lid.0 l.fn.tables l.tables;
  laid : (q : ℕ) → q < l.s → IsLaidAt l.fabric (λ c. weight_of l.weights c) l.tables l.lid.0 l.place l.tree q;
}
