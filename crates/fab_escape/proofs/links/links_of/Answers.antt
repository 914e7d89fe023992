use Rattle.std.proofs.Common.{◌+◌, sym, subst, arith}
use Rattle.fab_escape.specs.Trees.{AreLinks}
use Rattle.fab_escape.proofs.Making.{root_joined, root_within, link_pushed}
use Rattle.fab_escape.proofs.links.links_of.Goals as goal

pub link_up-requires-clause-root : goal.link_up-requires-clause-root
link_up-requires-clause-root c = root_within c.args.fabric.now c.switches-s-end.ensures.kept.rows c.args.roots.now c.loop-s.s c.requires.roots (omega (arith, c.switches-s-end.ensures.count))

pub link_up-requires-clause-joined : goal.link_up-requires-clause-joined
link_up-requires-clause-joined c = root_joined c.args.fabric.now c.args.roots.now c.loop-s.s c.requires.roots (omega (arith, c.switches-s-end.ensures.count))

pub loop-s-preserved : goal.loop-s-preserved
loop-s-preserved c =
    subst (λ xs. AreLinks c.args.fabric.now (c.loop-s.s + 1) c.args.roots.now xs) (sym c.in_ok-push.ensures.items)
    (link_pushed c.args.fabric.now c.loop-s.s c.args.roots.now c.link_up.result c.loop-s.links.items (omega (arith, c.requires.roots.each, c.switches-s-end.ensures.count)) c.loop-s.invariant c.link_up.ensures)
