use Rattle.fab_top.proofs.Answering
use Rattle.fab_top.proofs.laws.status_is_small.Goals as goal

pub returns : goal.returns
returns c = Answering.status_is_small
