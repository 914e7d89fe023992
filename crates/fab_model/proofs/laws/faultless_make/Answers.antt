use Rattle.fab_model.proofs.Faultless
use Rattle.fab_model.proofs.laws.faultless_make.Goals as goal

pub returns : goal.returns
returns c = Faultless.faultless_make
