use Rattle.std.proofs.Common.{◌∙◌, ap, sym, rules}
use Rattle.std.specs.Option.{option_or}
use Rattle.fab_export.proofs.UnfitRows.{unfit_of_good, unfit_behind, first_there, rest_asked}
use Rattle.fab_export.proofs.fitting.unfit_of_good.Goals as goal

pub returns-then-is_some : goal.returns-then-is_some
returns-then-is_some c verdict good =
    let t = c.args.fabric.now in
    first_there c.in_ok-guids.guids (unfit_behind t c.args.plan.now c.args.part) (sym c.is_some.ensures ∙ c.if-is_some.true)
    ∙ ap (λ o. option_or o (unfit_behind t c.args.plan.now c.args.part)) c.in_ok-guids.ensures ∙ sym (unfit_of_good t c.args.plan.now c.args.part verdict good)

pub returns : goal.returns
returns c verdict good =
    rest_asked c.in_ok-guids.guids _ c.too_far.result c.unfit_levels.result c.no_lanes.result _ _ _ c.or.result c.or-2.result c.in_ok-guids.ensures (sym c.is_some.ensures ∙ c.if-is_some.false)
    (search rules) (search rules) c.no_lanes.ensures c.or.ensures c.or-2.ensures
    ∙ sym (unfit_of_good c.args.fabric.now c.args.plan.now c.args.part verdict good)
