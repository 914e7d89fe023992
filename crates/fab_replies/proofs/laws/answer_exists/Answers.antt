use Rattle.fab_replies.proofs.AnswersExist
use Rattle.fab_replies.proofs.laws.answer_exists.Goals as goal

pub returns : goal.returns
returns c = AnswersExist.answer_exists
