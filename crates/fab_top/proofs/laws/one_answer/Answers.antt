use Rattle.fab_top.proofs.Answering
use Rattle.fab_top.proofs.laws.one_answer.Goals as goal

pub returns : goal.returns
returns c = Answering.one_answer
