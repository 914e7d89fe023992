use Rattle.fab_top.proofs.LayeredReplies
use Rattle.fab_top.proofs.laws.layered_replies_are_numbered.Goals as goal

pub returns : goal.returns
returns c = LayeredReplies.layered_replies_are_numbered
