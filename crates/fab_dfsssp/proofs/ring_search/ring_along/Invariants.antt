use Rattle.std.proofs.Common.{◌≡◌, ◌+◌, ◌-◌, ◌*◌, [], length}
use Rattle.fab_graph.specs.Walks.{Walk}
use Rattle.fab_rings.specs.Layers.{times}
use Rattle.fab_rings.specs.Nearness.{near_of}
use Rattle.fab_dfsssp.specs.CountedEdges.{IsCounted}
use Rattle.fab_dfsssp.specs.KeptNear.{NumbersRings}
use Rattle.fab_dfsssp.proofs.KeptNear.{AreOnWay}
use Rattle.fab_dfsssp.proofs.ring_search.ring_along.Given as goal

abbrev pub invariant-loop-node : goal.invariant-loop-node
invariant-loop-node l =
    let around = near_of l.initial.near l.first in
    record {
      each : length l.near ≡ length l.edges.heads;
      numbers : NumbersRings (λ a b. IsCounted l.edges a b) l.first around l.near;
      way : AreOnWay (λ a b. IsCounted l.edges a b) l.first around l.near l.ring.items;
      none : l.ring.items ≡ [] → (near_of l.near l.first ≡ 0) × (¬ Walk (λ a b. IsCounted l.edges a b) around l.first l.first);
    }

-- how many numbers are left counts twice, since the ring goes back by a node where one is lost
abbrev pub decreases-loop-node : goal.decreases-loop-node
decreases-loop-node l = 2 * (length l.near - times 0 l.near) + (near_of l.initial.near l.first + 1 - length l.ring.items)
