use Rattle.std.proofs.Common.{◌+◌, ◌<◌, ◌≤◌, [], length, All}
use Rattle.fab_rings.specs.Layers.{times}
use Rattle.fab_rings.specs.Nearness.{IsReaching}
use Rattle.fab_rings.proofs.nearness.nearness.Given as goal

abbrev pub invariant-loop-alloc : goal.invariant-loop-alloc
invariant-loop-alloc l = record {
  reaching : IsReaching l.graph l.last l.near.items l.layer.items [] (l.distance + 1);
  nodes : All (λ b. b < l.graph.nodes) l.layer.items;
  few : l.distance + times 0 l.near.items + length l.layer.items ≤ l.graph.nodes + 1;
}

abbrev pub decreases-loop-alloc : goal.decreases-loop-alloc
decreases-loop-alloc l = times 0 l.near.items + length l.layer.items
