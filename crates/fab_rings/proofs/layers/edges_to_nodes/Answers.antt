use Rattle.std.proofs.Common.{◌<◌, ℕ, length, replicate, take, slice_index_or, arith}
use Rattle.std.specs.Prelude.{◌==◌, ◌&&◌}
use Rattle.std.proofs.lemmas.List.{get_or_read, length-take-le}
use Rattle.std.proofs.lemmas.List.Sums.{count_by-le-length}
use Rattle.fab_rings.specs.Layers.{level_of}
use Rattle.fab_rings.proofs.layers.edges_to_nodes.Goals as goal

pub overflow_add-index_mut : goal.overflow_add-index_mut
overflow_add-index_mut c =
    let edges = c.edges-edge-items.result.now in
    let i = c.loop-edge.edge-index in
    let node = (slice_index_or edges i (0, 0)).1 in
    let low : i < length edges = c.loop-edge-test.true in
    let within : node < length c.loop-edge.left.items = rw (c.loop-edge.invariant.0, c.edges-edge-items.ensures.edges) (c.edges-edge-items.ensures.kept i (0, 0) (rw c.edges-edge-items.ensures.edges at low)).1 in
    omega (
      arith,
      get_or_read c.loop-edge.left.items node c.index_mut.result.now within c.index_mut.ensures.value 0,
      c.loop-edge.invariant.1 node,
      count_by-le-length (λ (e : ℕ × ℕ). (e.1 == node) && (level_of (replicate c.args.graph.now.nodes 0) e.0 == 0)) (take i edges),
      length-take-le i edges (omega arith),
    )
