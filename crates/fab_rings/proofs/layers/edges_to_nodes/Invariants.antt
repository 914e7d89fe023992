-- The edges so far are counted.
use Rattle.std.proofs.Common.{◌≡◌, ℕ, length, replicate, take}
use Rattle.fab_rings.specs.Layers.{left_of, edges_left}
use Rattle.fab_rings.proofs.layers.edges_to_nodes.Given as goal

abbrev pub invariant-loop-edge : goal.invariant-loop-edge
invariant-loop-edge l =
    (length l.left.items ≡ l.graph.nodes) × ((b : ℕ) → left_of l.left.items b ≡ edges_left (take l.edge-index l.edge-items) (replicate l.graph.nodes 0) b)
