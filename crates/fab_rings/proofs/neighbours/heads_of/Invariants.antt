-- Each edge so far stands in the list of its tail.
use Rattle.std.proofs.Common.{take}
use Rattle.fab_rings.specs.Neighbours.{successors_of, AreNeighbours}
use Rattle.fab_rings.proofs.neighbours.heads_of.Given as goal

abbrev pub invariant-loop-edge : goal.invariant-loop-edge
invariant-loop-edge l = AreNeighbours l.graph.nodes (successors_of (take l.edge-index l.edge-items)) l.heads
