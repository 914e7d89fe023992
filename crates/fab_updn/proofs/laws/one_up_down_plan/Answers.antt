use Rattle.fab_updn.proofs.OnePlan
use Rattle.fab_updn.proofs.laws.one_up_down_plan.Goals as goal

pub returns : goal.returns
returns c = OnePlan.one_up_down_plan
