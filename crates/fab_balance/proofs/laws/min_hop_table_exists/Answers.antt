use Rattle.fab_balance.proofs.TablesExist
use Rattle.fab_balance.proofs.laws.min_hop_table_exists.Goals as goal

pub returns : goal.returns
returns c = TablesExist.min_hop_table_exists
