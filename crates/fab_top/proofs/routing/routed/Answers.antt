use Rattle.std.proofs.Common.{ap, List, ℕ}
use Rattle.fab_dump.specs.Writing.{plan_text}
use Rattle.fab_top.specs.Engines.{Lays}
use Rattle.fab_top.proofs.Laying.EngineAnswers.{plan_is_laid, plan_found, route_no, route_stops}
use Rattle.fab_top.proofs.Laying.EnginePlans.{laid_in_order}
use Rattle.fab_top.proofs.routing.routed.Goals as goal

pub returns-in_err-plan : goal.returns-in_err-plan
returns-in_err-plan c = route_stops c.args.engine c.args.fabric _ _ c.requires.fabric c.in_err-plan.ensures c.from_residual.ensures.1

pub returns-in-Plan : goal.returns-in-Plan
returns-in-Plan c =
    let lays : Lays c.args.fabric c.args.engine c.in-Plan.plan = plan_is_laid c.args.fabric c.args.engine _ c.in-Plan.plan c.in-Plan.is c.in_ok-plan.ensures in
    plan_found c.args.engine c.args.fabric c.in-Plan.plan _ c.requires.fabric lays
    (ap (λ (err : List ℕ). record { status = 0; out = plan_text c.args.fabric c.in-Plan.plan; err = err }) c.new.ensures.items)
    (laid_in_order c.args.fabric c.args.engine c.in-Plan.plan c.requires.fabric lays).fits

pub returns-in-No : goal.returns-in-No
returns-in-No c = route_no c.args.engine c.args.fabric _ c.in-No.reason _ c.requires.fabric c.in-No.is c.in_ok-plan.ensures c.no.ensures.answer c.no.ensures.can_be_put
