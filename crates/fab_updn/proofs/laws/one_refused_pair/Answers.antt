use Rattle.fab_updn.proofs.Refusals
use Rattle.fab_updn.proofs.laws.one_refused_pair.Goals as goal

pub returns : goal.returns
returns c = Refusals.one_refused_pair
