use Rattle.std.proofs.Common.{◌<◌, length, sym, ap, subst, arith, true}
use Rattle.std.specs.Prelude.{Some, slice_set}
use Rattle.fab_rings.specs.EdgeList.{EdgeList}
use Rattle.fab_certify.specs.Collected.{Collected, AddsHop}
use Rattle.fab_certify.proofs.Collected.HopsAdded.{adds_next, edge_pushed, follower_pushed}
use Rattle.fab_certify.proofs.dependencies.Dependencies.add.Goals as goal

pub invariant_of-self : goal.invariant_of-self
invariant_of-self c =
    edge_pushed c.self.inside.used.items c.self.inside.graph c.self.inside.followers c.self.invariant c.args.node c.in-Some.first c.push.result c.push.new.self c.push.ensures.ok c.push.ensures.err

pub invariant_of-self-in-Continue-branch-2 : goal.invariant_of-self-in-Continue-branch-2
invariant_of-self-in-Continue-branch-2 c =
    let low : c.in-Some.first < length c.self.inside.used.items = omega (arith, rw c.in-Some.is at c.requires.before, ap (λ (d : Collected). length d.used) c.self.view_is) in
    follower_pushed c.self.inside.used.items c.self.inside.graph c.self.inside.followers c.self.invariant c.args.node c.in-Some.first low c.push.new.self c.in_ok-push.ensures.ok c.push-then-not-has.result c.push-then-not-has.new.self c.push-then-not-has.ensures.ok c.push-then-not-has.ensures.err

pub invariant_of-self-in_err-push-2 : goal.invariant_of-self-in_err-push-2
invariant_of-self-in_err-push-2 c =
    let low : c.in-Some.first < length c.self.inside.used.items = omega (arith, rw c.in-Some.is at c.requires.before, ap (λ (d : Collected). length d.used) c.self.view_is) in
    follower_pushed c.self.inside.used.items c.self.inside.graph c.self.inside.followers c.self.invariant c.args.node c.in-Some.first low c.push.new.self c.in_ok-push.ensures.ok c.push-then-not-has.result c.push-then-not-has.new.self c.push-then-not-has.ensures.ok c.push-then-not-has.ensures.err

pub returns-in_ok-push-2 : goal.returns-in_ok-push-2
returns-in_ok-push-2 c =
    let used = c.self.inside.used.items in
    let g = c.self.inside.graph in
    let low : c.args.node < length used = omega (arith, c.requires.node, ap (λ (d : Collected). length d.used) c.self.view_is) in
    rw (c.in-Some.is, ← c.self.view_is)
    (subst (λ (h : EdgeList). AddsHop (Some c.in-Some.first) c.args.node (record { used = used; pairs = g.edges }) (record { used = slice_set used c.args.node true; pairs = h.edges })) (sym c.in_ok-push.ensures.ok)
    (adds_next used c.args.node low g.edges c.in-Some.first))
