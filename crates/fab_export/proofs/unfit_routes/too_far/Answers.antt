use Rattle.std.proofs.Common.{sym, ◌∙◌, arith}
use Rattle.fab_export.proofs.FarRoutes.{first_far, none_so_far, nothing_far}
use Rattle.fab_export.proofs.unfit_routes.too_far.Goals as goal

pub returns-then-is_some : goal.returns-then-is_some
returns-then-is_some c =
    first_far c.args.reached.now.fabric c.args.reached.now.entries c.lids-lid-items.result.now c.loop-lid.lid-index c.too_far_to-far.result c.lids-lid-items.ensures.lids c.loop-lid-test.true c.loop-lid.invariant
    c.too_far_to-far.ensures (sym c.is_some.ensures ∙ c.if-is_some.true)

pub loop-lid-preserved : goal.loop-lid-preserved
loop-lid-preserved c =
    none_so_far c.args.reached.now.fabric c.args.reached.now.entries c.lids-lid-items.result.now c.loop-lid.lid-index c.too_far_to-far.result c.lids-lid-items.ensures.lids c.loop-lid-test.true c.loop-lid.invariant
    c.too_far_to-far.ensures (sym c.is_some.ensures ∙ c.if-is_some.false)

pub returns : goal.returns
returns c =
    nothing_far c.args.reached.now.fabric c.args.reached.now.entries c.lids-lid-items.result.now c.loop-lid.lid-index c.lids-lid-items.ensures.lids (omega (arith, c.loop-lid-test.false)) c.loop-lid.invariant
