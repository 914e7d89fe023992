use Rattle.fab_balance.proofs.TablesExist
use Rattle.fab_balance.proofs.laws.dor_table_exists.Goals as goal

pub returns : goal.returns
returns c = TablesExist.dor_table_exists
