use Rattle.std.proofs.Common.{◌<◌, length, arith, sym}
use Rattle.fab_tables.proofs.Paths.TreeWalks.{next_tip_below}
use Rattle.fab_sssp.proofs.Raising.TreePassing.{tip_read}
use Rattle.fab_sssp.proofs.Raising.PassingCounts.{leading_fits}
use Rattle.fab_sssp.proofs.passing.count_pending.Goals as goal

pub bounds-pending-tip : goal.bounds-pending-tip
bounds-pending-tip c =
    let t = c.args.fabric.now in
    let d = c.in-Some.channel.0 in
    omega (
      arith,
      tip_read t d c.tip.result c.tip.ensures,
      next_tip_below t c.switches-s-end.ensures.kept.rows c.args.tree.now c.requires.tree c.loop-s.s d (sym c.in-Some.ensures),
      c.loop-s.invariant.0,
    )

pub overflow_add-pending : goal.overflow_add-pending
overflow_add-pending c =
    let t = c.args.fabric.now in
    let d = c.in-Some.channel.0 in
    let below : c.tip.result.0 < length t.switches =
    omega (arith, tip_read t d c.tip.result c.tip.ensures, next_tip_below t c.switches-s-end.ensures.kept.rows c.args.tree.now c.requires.tree c.loop-s.s d (sym c.in-Some.ensures)) in
    omega (
      arith,
      leading_fits t c.args.tree.now c.tip.result.0 c.loop-s.s _ c.switches-s-end.ensures.kept.rows (omega (arith, c.loop-s-test.true, c.switches-s-end.ensures.count)) (c.loop-s.invariant.1 c.tip.result.0 below),
    )

pub bounds-pending-tip-in-Some : goal.bounds-pending-tip-in-Some
bounds-pending-tip-in-Some c =
    let t = c.args.fabric.now in
    let d = c.in-Some.channel.0 in
    omega (
      arith,
      tip_read t d c.tip.result c.tip.ensures,
      next_tip_below t c.switches-s-end.ensures.kept.rows c.args.tree.now c.requires.tree c.loop-s.s d (sym c.in-Some.ensures),
      c.loop-s.invariant.0,
    )
