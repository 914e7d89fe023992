use Rattle.fab_top.proofs.Answering
use Rattle.fab_top.proofs.laws.answers_keep_headline.Goals as goal

pub returns : goal.returns
returns c = Answering.answers_keep_headline
