use Rattle.fab_replies.proofs.Covering
use Rattle.fab_replies.proofs.laws.numbers_cover.Goals as goal

pub returns : goal.returns
returns c = Covering.numbers_cover
