use Rattle.fab_top.proofs.Laying.EngineAnswers.{plan_is_laid, counts_found, demo_no, demo_stops}
use Rattle.fab_top.proofs.Laying.EnginePlans.{laid_in_order}
use Rattle.fab_top.proofs.routing.shown_off.Goals as goal

pub returns-in_err-plan : goal.returns-in_err-plan
returns-in_err-plan c = demo_stops c.args.engine c.args.fabric.now _ _ c.requires.fabric c.in_err-plan.ensures c.from_residual.ensures.1

pub counted-requires-clause-fits : goal.counted-requires-clause-fits
counted-requires-clause-fits c =
    (laid_in_order c.args.fabric.now c.args.engine c.in-Plan.plan c.requires.fabric (plan_is_laid c.args.fabric.now c.args.engine _ c.in-Plan.plan c.in-Plan.is c.in_ok-plan.ensures)).fits

pub returns-in_ok-outcome-in-Plan : goal.returns-in_ok-outcome-in-Plan
returns-in_ok-outcome-in-Plan c =
    counts_found c.args.engine c.args.fabric.now c.in-Plan.plan _ c.requires.fabric (plan_is_laid c.args.fabric.now c.args.engine _ c.in-Plan.plan c.in-Plan.is c.in_ok-plan.ensures)
    c.in_ok-outcome-in-Plan.ensures.summary c.in_ok-outcome-in-Plan.ensures.can_be_put

pub returns-in-No : goal.returns-in-No
returns-in-No c = demo_no c.args.engine c.args.fabric.now _ c.in-No.reason _ c.requires.fabric c.in-No.is c.in_ok-plan.ensures c.no.ensures.answer c.no.ensures.can_be_put
