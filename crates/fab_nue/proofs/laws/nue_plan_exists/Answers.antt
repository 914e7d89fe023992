use Rattle.fab_nue.proofs.Exists.Plans as exist
use Rattle.fab_nue.proofs.laws.nue_plan_exists.Goals as goal

pub returns : goal.returns
returns c = exist.nue_plan_exists
