use Rattle.fab_top.proofs.TheHeadline
use Rattle.fab_top.proofs.laws.headline.Goals as goal

pub returns : goal.returns
returns c = TheHeadline.headline
