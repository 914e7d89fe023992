use Rattle.fab_replies.proofs.RingMessages
use Rattle.fab_replies.proofs.laws.ring_is_deadlocked.Goals as goal

pub returns : goal.returns
returns c = RingMessages.ring_is_deadlocked
