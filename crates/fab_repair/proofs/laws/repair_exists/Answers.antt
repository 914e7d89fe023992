use Rattle.fab_repair.proofs.RepairExists as exists
use Rattle.fab_repair.proofs.laws.repair_exists.Goals as goal

pub returns : goal.returns
returns c = exists.repair_exists
