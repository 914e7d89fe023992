use Rattle.std.proofs.Common.{◌≡◌}
use Rattle.fab_dfsssp.specs.Breaking.{ring_edges}
use Rattle.fab_dfsssp.specs.CountedEdges.{times_of}
use Rattle.fab_dfsssp.proofs.Weakest.{IsFirstLeastOf}
use Rattle.fab_dfsssp.proofs.least_edge.weakest_edge.Given as goal

abbrev pub invariant-loop-index : goal.invariant-loop-index
invariant-loop-index l = (l.fewest ≡ times_of l.edges l.weakest) × IsFirstLeastOf (λ edge. times_of l.edges edge) (ring_edges l.ring) l.index l.weakest
