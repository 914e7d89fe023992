use Rattle.fab_balance.proofs.OneTables
use Rattle.fab_balance.proofs.laws.one_picked.Goals as goal

pub returns : goal.returns
returns c = OneTables.one_picked
