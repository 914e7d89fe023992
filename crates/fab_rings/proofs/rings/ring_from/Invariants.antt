use Rattle.fab_rings.specs.Nearness.{IsRingSoFar}
use Rattle.fab_rings.proofs.rings.ring_from.Given as goal

abbrev pub invariant-loop-distance : goal.invariant-loop-distance
invariant-loop-distance l = IsRingSoFar l.graph.edges l.first l.near l.ring.items l.node l.distance

abbrev pub decreases-loop-distance : goal.decreases-loop-distance
decreases-loop-distance l = l.distance
