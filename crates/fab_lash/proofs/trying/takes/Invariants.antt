use Rattle.std.proofs.Common.{◌≡◌, ◌≤◌, ◌+◌, take}
use Rattle.fab_graph.specs.Walks.{IsAcyclic}
use Rattle.fab_depgraph.specs.Listed.{IsListed}
use Rattle.fab_lash.specs.Adding.{with_deps}
use Rattle.fab_lash.proofs.trying.takes.Given as goal

abbrev pub invariant-loop-dependency : goal.invariant-loop-dependency
invariant-loop-dependency g l = record {
  listed : l.graph.listed ≡ with_deps l.initial.graph.listed (take l.dependency-index l.dependencies);
  channels : l.graph.channels ≡ l.initial.graph.channels;
  spare : l.initial.graph.spare ≤ l.graph.spare + l.dependency-index;
  acyclic : IsAcyclic (IsListed l.graph.listed);
}
