use Rattle.fab_repair.proofs.Repairing
use Rattle.fab_repair.proofs.laws.kept_stay.Goals as goal

pub returns : goal.returns
returns c = Repairing.kept_stay
