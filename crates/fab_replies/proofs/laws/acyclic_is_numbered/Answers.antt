use Rattle.fab_replies.proofs.TurningLanes
use Rattle.fab_replies.proofs.laws.acyclic_is_numbered.Goals as goal

pub returns : goal.returns
returns c = TurningLanes.acyclic_is_numbered
