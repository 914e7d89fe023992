use Rattle.fab_repair.proofs.Repairing
use Rattle.fab_repair.proofs.laws.nothing_failed.Goals as goal

pub returns : goal.returns
returns c = Repairing.nothing_failed
