use Rattle.std.proofs.Common.{◌≡◌, ◌++◌, ◌∷◌, [], List, ◌∙◌, ap, subst}
use Rattle.fab_graph.specs.Walks.{IsAcyclic}
use Rattle.fab_depgraph.specs.declared.dep.Dep.{Dep}
use Rattle.fab_depgraph.specs.Listed.{Dependencies, IsListed}
use Rattle.fab_depgraph.proofs.arena.DepGraph.add.Goals as goal

pub returns-clause-acyclic : goal.returns-clause-acyclic
returns-clause-acyclic g c =
    let listed : c.append.new.self.listed ≡ c.args.self.now.listed ++ c.args.dep ∷ [] = ap (λ (g : Dependencies). g.listed) c.append.ensures.added ∙ ap (λ (g : Dependencies). g.listed ++ c.args.dep ∷ []) c.make_rise.ensures.rest in
    λ is_added. subst (λ (ds : List Dep). IsAcyclic (IsListed ds)) listed c.append.ensures.acyclic
