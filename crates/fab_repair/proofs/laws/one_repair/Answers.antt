use Rattle.fab_repair.proofs.Repairing
use Rattle.fab_repair.proofs.laws.one_repair.Goals as goal

pub returns : goal.returns
returns c = Repairing.one_repair
