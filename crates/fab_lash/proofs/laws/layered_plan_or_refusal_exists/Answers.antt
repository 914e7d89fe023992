use Rattle.fab_lash.proofs.Exists.Plans
use Rattle.fab_lash.proofs.laws.layered_plan_or_refusal_exists.Goals as goal

pub returns : goal.returns
returns c = Plans.layered_plan_or_refusal_exists
