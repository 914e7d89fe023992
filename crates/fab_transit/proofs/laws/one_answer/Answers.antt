use Rattle.fab_transit.proofs.OneMixed
use Rattle.fab_transit.proofs.laws.one_answer.Goals as goal

pub returns : goal.returns
returns c = OneMixed.one_answer
