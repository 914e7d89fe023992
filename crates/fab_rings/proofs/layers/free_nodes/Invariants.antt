-- The free nodes so far stand in the layer.
use Rattle.std.proofs.Common.{◌≡◌, ◌<◌, ◌≤◌, ℕ, replicate}
use Rattle.fab_rings.specs.Layers.{left_of, level_of, times, times_ready}
use Rattle.fab_rings.proofs.layers.free_nodes.Given as goal

abbrev pub invariant-loop-node : goal.invariant-loop-node
invariant-loop-node l =
    ((b : ℕ) → b < l.node → times b l.layer.items ≡ times_ready (level_of (replicate l.nodes 0) b) (left_of l.left b))
    × ((b : ℕ) → l.node ≤ b → times b l.layer.items ≡ 0)
