use Rattle.std.proofs.Common.{refl}
use Rattle.fab_nue.proofs.Plans.NumberedPlan.{only_numbers, numbers_make_plan}
use Rattle.fab_nue.proofs.Plans.CertifiedPlan.{nue_is_tidy}
use Rattle.fab_nue.proofs.numbered.numbered_plan.Goals as goal

pub unreachable-requires : goal.unreachable-requires
unreachable-requires c =
    let x = c.requires.laid.1 in
    only_numbers c.args.fabric.now c.args.lanes.count c.requires.laid.0 c.args.kept x.forest x.laid c.args.tables c.args.lanes c.requires.fabric.rows x.fits.whole.count.0 x.lids x.fits refl x.maps x.levels
    c.in_ok-plan.field-0 (c.in_ok-plan.ensures.plain x.maps.no_pair) c.in-Refused.is

pub returns-clause-plan : goal.returns-clause-plan
returns-clause-plan c = λ old x. (
  x.forest,
  x.laid,
  numbers_make_plan c.args.fabric.now c.args.lanes.count old c.args.kept x.forest x.laid c.args.tables c.args.lanes c.requires.fabric.rows x.fits.whole.count.0 x.lids x.fits refl x.maps x.levels
      c.in_ok-plan.field-0 c.in-Numbers.plan (c.in_ok-plan.ensures.plain x.maps.no_pair) c.in-Numbers.is,
  x.used_lists,
)

pub returns-clause-tidy : goal.returns-clause-tidy
returns-clause-tidy c =
    let plan = returns-clause-plan c c.requires.laid.0 c.requires.laid.1 in
    nue_is_tidy c.args.fabric.now c.args.lanes.count c.requires.laid.0 c.args.kept c.in-Numbers.plan (plan.0, plan.1, plan.2)
