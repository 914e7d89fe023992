use Rattle.std.proofs.Common.{◌++◌, List, sym, subst, arith}
use Rattle.std.specs.Prelude.{ℕ, Option}
use Rattle.fab_graph.specs.Walks.{IsAcyclic, HasClosedWalk}
use Rattle.fab_sssp.proofs.Walks.LeastChannels.{tip_within}
use Rattle.fab_depgraph.specs.declared.dep.Dep.{Dep}
use Rattle.fab_depgraph.specs.Listed.{IsListed}
use Rattle.fab_nue.specs.Added.{dep_behind}
use Rattle.fab_nue.proofs.Searching.Adding.{behind_read, channel_within}
use Rattle.fab_nue.proofs.adding.add_behind.Goals as goal

pub next-requires : goal.next-requires
next-requires g c = omega (arith, tip_within c.args.fabric.now c.requires.fabric.rows c.args.channel.0 c.tip.result c.tip.ensures, c.requires.tree.each_switch)

pub add-requires-clause-within : goal.add-requires-clause-within
add-requires-clause-within g c =
    let t = c.args.fabric.now in
    let tree = c.args.tree.now in
    let behind = behind_read t tree c.args.channel.0 c.tip.result c.next.result c.in-Some.second c.tip.ensures c.next.ensures c.in-Some.is in (
      omega (arith, c.requires.channel, c.requires.channels),
      omega (arith, channel_within t tree _ c.in-Some.second.0 c.requires.tree behind, c.requires.channels),
    )

pub returns-in-Some-clause-closes : goal.returns-in-Some-clause-closes
returns-in-Some-clause-closes g c = λ is.
    let t = c.args.fabric.now in
    let tree = c.args.tree.now in
    let behind = behind_read t tree c.args.channel.0 c.tip.result c.next.result c.in-Some.second c.tip.ensures c.next.ensures c.in-Some.is in
    subst (λ (o : Option ℕ). HasClosedWalk (IsListed (c.args.used.now.listed ++ dep_behind c.args.channel.0 o))) (sym behind) (c.add.ensures.closes is)

pub returns-in-Some-clause-acyclic : goal.returns-in-Some-clause-acyclic
returns-in-Some-clause-acyclic g c = λ is. subst (λ (xs : List Dep). IsAcyclic (IsListed xs)) (sym (c.add.ensures.added is)) (c.add.ensures.acyclic is)
