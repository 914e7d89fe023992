-- The search goes on, with less to do.
use Rattle.std.proofs.Common.{◌≡◌, ◌≤◌}
use Rattle.fab_rings.specs.PathSearch.{IsPathSearch, work_left}
use Rattle.fab_rings.proofs.strong_components.PathSearch.next_head.Given as goal

abbrev pub invariant-loop-self : goal.invariant-loop-self
invariant-loop-self l = record {
  graph : l.self.graph ≡ l.initial.self.graph;
  search : IsPathSearch l.self;
  less : work_left l.self ≤ work_left l.initial.self;
}

abbrev pub decreases-loop-self : goal.decreases-loop-self
decreases-loop-self l = work_left l.self
