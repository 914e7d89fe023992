use Rattle.fab_dfsssp.proofs.PlanNumbers.{only_numbers, numbers_make_plan, plan_is_tidy}
use Rattle.fab_dfsssp.specs.DfssspPlans.{IsDfssspPlan}
use Rattle.fab_dfsssp.proofs.numbered.numbered_plan.Goals as goal

pub unreachable-requires : goal.unreachable-requires
unreachable-requires c =
    only_numbers c.args.fabric.now c.args.tables c.args.lanes c.requires.fabric.rows c.requires.tables c.requires.lanes c.in_ok-plan.field-0 (c.in_ok-plan.ensures.plain c.requires.lanes.maps.no_pair) c.in-Refused.is

is_plan : (c : goal.Joined-plan-2) → IsDfssspPlan c.args.fabric.now c.args.lanes.count c.in-Numbers.plan
is_plan c =
    numbers_make_plan c.args.fabric.now c.args.tables c.args.lanes c.requires.fabric.rows c.requires.tables c.requires.lanes c.in_ok-plan.field-0 c.in-Numbers.plan (c.in_ok-plan.ensures.plain c.requires.lanes.maps.no_pair) c.in-Numbers.is

pub returns-clause-plan : goal.returns-clause-plan
returns-clause-plan c = is_plan c

pub returns-clause-tidy : goal.returns-clause-tidy
returns-clause-tidy c = plan_is_tidy c.args.fabric.now c.args.lanes.count c.in-Numbers.plan (is_plan c)
