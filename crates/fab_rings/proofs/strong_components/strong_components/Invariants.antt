-- The search goes on.
use Rattle.std.proofs.Common.{◌≡◌}
use Rattle.fab_rings.specs.PathSearch.{IsPathSearch, work_left}
use Rattle.fab_rings.proofs.strong_components.strong_components.Given as goal

abbrev pub invariant-loop-head : goal.invariant-loop-head
invariant-loop-head l = record {
  graph : l.search.graph ≡ l.graph;
  search : IsPathSearch l.search;
}

abbrev pub decreases-loop-head : goal.decreases-loop-head
decreases-loop-head l = work_left l.search
