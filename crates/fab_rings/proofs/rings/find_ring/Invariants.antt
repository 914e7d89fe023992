-- No node so far is on a closed walk.
use Rattle.std.proofs.Common.{◌<◌, ℕ}
use Rattle.fab_graph.specs.Walks.{IsEdge, IsOnClosedWalk}
use Rattle.fab_rings.proofs.rings.find_ring.Given as goal

abbrev pub invariant-loop-node : goal.invariant-loop-node
invariant-loop-node l = (a : ℕ) → a < l.node → ¬ IsOnClosedWalk (IsEdge l.graph.edges) a
