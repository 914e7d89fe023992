use Rattle.fab_model.proofs.MakesItself
use Rattle.fab_model.proofs.laws.well_formed_make_themselves.Goals as goal

pub returns : goal.returns
returns c = MakesItself.well_formed_make_themselves
