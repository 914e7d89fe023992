use Rattle.fab_transit.proofs.MixedExists
use Rattle.fab_transit.proofs.laws.answer_exists.Goals as goal

pub returns : goal.returns
returns c = MixedExists.mixed_exists
