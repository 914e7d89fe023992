use Rattle.std.proofs.Common.{subst}
use Rattle.fab_graph.specs.Walks.{IsAcyclic}
use Rattle.fab_depgraph.specs.Listed.{Dependencies, IsListed}
use Rattle.fab_depgraph.proofs.arena.DepGraph.mark.Goals as goal

pub returns-clause-acyclic : goal.returns-clause-acyclic
returns-clause-acyclic c =
    let P : Dependencies → Type 0 = λ g. IsAcyclic (IsListed g.listed) in subst P c.self.view_is c.self.invariant.dependencies.acyclic
