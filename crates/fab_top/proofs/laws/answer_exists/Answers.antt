use Rattle.fab_top.proofs.Answering
use Rattle.fab_top.proofs.laws.answer_exists.Goals as goal

pub returns : goal.returns
returns c = Answering.answer_exists
