use Rattle.std.proofs.Common.{◌≡◌, ◌+◌, ◌<◌, ◌≤◌, [], length, All}
use Rattle.fab_rings.specs.EdgeList.{EdgeList}
use Rattle.fab_rings.specs.Layers.{times}
use Rattle.fab_rings.specs.Nearness.{IsReaching}
use Rattle.fab_dfsssp.specs.CountedEdges.{IsListing}
use Rattle.fab_dfsssp.proofs.nearness.nearness.Given as goal

abbrev pub invariant-loop-alloc : goal.invariant-loop-alloc
invariant-loop-alloc l = record {
  each : length l.near.items ≡ length l.edges.heads;
  reaching : (g : EdgeList) → IsListing g l.edges → IsReaching g l.last l.near.items l.layer.items [] (l.distance + 1);
  nodes : All (λ b. b < length l.edges.heads) l.layer.items;
  few : l.distance + times 0 l.near.items + length l.layer.items ≤ length l.edges.heads + 1;
}

abbrev pub decreases-loop-alloc : goal.decreases-loop-alloc
decreases-loop-alloc l = times 0 l.near.items + length l.layer.items
