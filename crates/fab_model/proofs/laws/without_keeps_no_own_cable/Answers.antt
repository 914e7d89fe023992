use Rattle.fab_model.proofs.Without
use Rattle.fab_model.proofs.laws.without_keeps_no_own_cable.Goals as goal

pub returns : goal.returns
returns c = Without.without_keeps_no_own_cable
