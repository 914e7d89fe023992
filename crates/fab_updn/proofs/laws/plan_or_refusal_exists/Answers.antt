use Rattle.fab_updn.proofs.Exists.Plans
use Rattle.fab_updn.proofs.laws.plan_or_refusal_exists.Goals as goal

pub returns : goal.returns
returns c = Plans.plan_or_refusal_exists
