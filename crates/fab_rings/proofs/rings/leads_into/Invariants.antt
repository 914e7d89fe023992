-- None of the nodes so far is in the component.
use Rattle.std.proofs.Common.{◌≢◌, ◌<◌, ℕ}
use Rattle.std.specs.Prelude.{slice_index_or}
use Rattle.fab_rings.specs.StrongComponents.{value_of}
use Rattle.fab_rings.proofs.rings.leads_into.Given as goal

abbrev pub invariant-loop-node : goal.invariant-loop-node
invariant-loop-node l = (k : ℕ) → k < l.node-index → value_of l.components (slice_index_or l.nodes k 0) ≢ l.component
