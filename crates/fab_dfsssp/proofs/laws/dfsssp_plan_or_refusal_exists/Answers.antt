use Rattle.fab_dfsssp.proofs.Exists.Plans
use Rattle.fab_dfsssp.proofs.laws.dfsssp_plan_or_refusal_exists.Goals as goal

pub returns : goal.returns
returns c = Plans.dfsssp_plan_or_refusal_exists
