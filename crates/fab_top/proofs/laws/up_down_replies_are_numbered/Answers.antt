use Rattle.fab_top.proofs.UpDownReplies
use Rattle.fab_top.proofs.laws.up_down_replies_are_numbered.Goals as goal

pub returns : goal.returns
returns c = UpDownReplies.up_down_replies_are_numbered
