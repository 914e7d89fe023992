use Rattle.fab_replies.proofs.TurningLanes
use Rattle.fab_replies.proofs.laws.acyclic_by_level_is_numbered.Goals as goal

pub returns : goal.returns
returns c = TurningLanes.acyclic_by_level_is_numbered
