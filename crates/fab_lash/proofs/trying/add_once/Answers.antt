use Rattle.std.proofs.Common.{List, sym, subst, arith}
use Rattle.fab_graph.specs.Walks.{IsAcyclic, HasClosedWalk}
use Rattle.fab_depgraph.specs.declared.dep.Dep.{Dep}
use Rattle.fab_depgraph.specs.Listed.{IsListed}
use Rattle.fab_lash.proofs.Adding.{lacking}
use Rattle.fab_lash.proofs.trying.add_once.Goals as goal

pub returns-in-Yes-clause-acyclic : goal.returns-in-Yes-clause-acyclic
returns-in-Yes-clause-acyclic g c = λ taken. let P : List Dep → Type 0 = λ xs. IsAcyclic (IsListed xs) in subst P (sym (c.add.ensures.added c.in-Yes.is)) (c.add.ensures.acyclic c.in-Yes.is)

pub returns-in-WouldClose-clause-closes : goal.returns-in-WouldClose-clause-closes
returns-in-WouldClose-clause-closes g c = λ refused.
    let P : List Dep → Type 0 = λ xs. HasClosedWalk (IsListed xs) in
    subst P (sym (lacking c.args.graph.now.listed c.args.dependency (omega (arith, c.count.ensures, c.if-count-gt0.false)))) (c.add.ensures.closes c.in-WouldClose.is)
