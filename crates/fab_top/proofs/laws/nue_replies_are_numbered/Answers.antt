use Rattle.fab_top.proofs.NueReplies
use Rattle.fab_top.proofs.laws.nue_replies_are_numbered.Goals as goal

pub returns : goal.returns
returns c = NueReplies.nue_replies_are_numbered
