use Rattle.fab_netdiscover.proofs.OwnCables
use Rattle.fab_netdiscover.proofs.laws.texts_have_no_own_cable.Goals as goal

pub returns : goal.returns
returns c = OwnCables.texts_have_no_own_cable
