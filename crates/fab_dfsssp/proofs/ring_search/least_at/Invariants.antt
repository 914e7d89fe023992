use Rattle.std.proofs.Common.{MatchOption, ℕ, take}
use Rattle.fab_graph.specs.Least.{IsLeast}
use Rattle.fab_rings.specs.Nearness.{StandsAtDistance}
use Rattle.fab_dfsssp.proofs.ring_search.least_at.Given as goal

abbrev pub invariant-loop-node : goal.invariant-loop-node
invariant-loop-node l = MatchOption l.least
    ((a : ℕ) → ¬ StandsAtDistance (take l.node-index l.nodes) l.near l.distance a)
    (IsLeast (StandsAtDistance (take l.node-index l.nodes) l.near l.distance))
