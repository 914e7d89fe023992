use Rattle.std.proofs.Common.{◌∙◌, ◌+◌, ◌<◌, length, sym, subst, arith}
use Rattle.fab_escape.specs.Trees.{AreHopsToRoots}
use Rattle.fab_hops.proofs.Kept.{count_told}
use Rattle.fab_escape.proofs.Making.{root_joined, root_within, count_by_joined, depth_pushed}
use Rattle.fab_escape.proofs.jumps.depths_of.Goals as goal

pub hop-requires-clause-to : goal.hop-requires-clause-to
hop-requires-clause-to c =
    omega (arith, c.requires.hops.switches, root_within c.args.fabric.now c.switches-s-end.ensures.kept.rows c.args.roots.now c.loop-s.s c.requires.roots (omega (arith, c.switches-s-end.ensures.count)))

pub unreachable-requires : goal.unreachable-requires
unreachable-requires c =
    let low : c.loop-s.s < length c.args.fabric.now.switches = omega (arith, c.switches-s-end.ensures.count) in
    count_by_joined c.args.fabric.now c.args.hops.now c.requires.hops c.loop-s.s _ low (root_within c.args.fabric.now c.switches-s-end.ensures.kept.rows c.args.roots.now c.loop-s.s c.requires.roots low)
    (root_joined c.args.fabric.now c.args.roots.now c.loop-s.s c.requires.roots low) (sym c.hop.ensures ∙ c.in-None.is)

pub loop-s-preserved : goal.loop-s-preserved
loop-s-preserved c =
    let low : c.loop-s.s < length c.args.fabric.now.switches = omega (arith, c.switches-s-end.ensures.count) in
    subst (λ xs. AreHopsToRoots c.args.fabric.now (c.loop-s.s + 1) c.args.roots.now xs) (sym c.in_ok-push-in-Some.ensures.items)
    (depth_pushed c.args.fabric.now c.loop-s.s c.in-Some.depth c.args.roots.now c.loop-s.depths.items (omega (arith, c.requires.roots.each, low)) c.loop-s.invariant
    (count_told c.args.fabric.now c.args.hops.now c.requires.hops c.loop-s.s _ c.in-Some.depth low
    (root_within c.args.fabric.now c.switches-s-end.ensures.kept.rows c.args.roots.now c.loop-s.s c.requires.roots low) (sym c.hop.ensures ∙ c.in-Some.is)))
