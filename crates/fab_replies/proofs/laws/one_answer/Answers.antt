use Rattle.fab_replies.proofs.OneReplied
use Rattle.fab_replies.proofs.laws.one_answer.Goals as goal

pub returns : goal.returns
returns c = OneReplied.one_answer
