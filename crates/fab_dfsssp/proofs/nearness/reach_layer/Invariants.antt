-- The nodes so far have been looked at.
use Rattle.std.proofs.Common.{◌≡◌, ◌+◌, ◌<◌, ℕ, [], length, drop, All}
use Rattle.fab_rings.specs.EdgeList.{EdgeList}
use Rattle.fab_rings.specs.Layers.{times}
use Rattle.fab_rings.specs.Nearness.{IsReaching}
use Rattle.fab_dfsssp.specs.CountedEdges.{IsListing}
use Rattle.fab_dfsssp.proofs.nearness.reach_layer.Given as goal

abbrev pub invariant-loop-node : goal.invariant-loop-node
invariant-loop-node l = record {
  each : length l.near ≡ length l.edges.heads;
  reaching : (g : EdgeList) (last : ℕ) → IsListing g l.edges → IsReaching g last l.initial.near l.layer [] l.distance → IsReaching g last l.near (drop l.node-index l.layer) l.next.items l.distance;
  nodes : All (λ b. b < length l.edges.heads) l.next.items;
  fewer : times 0 l.near + length l.next.items ≡ times 0 l.initial.near;
}
