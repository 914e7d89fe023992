use Rattle.fab_balance.proofs.OneTables
use Rattle.fab_balance.proofs.laws.one_balanced_choice.Goals as goal

pub returns : goal.returns
returns c = OneTables.one_balanced_choice
