use Rattle.fab_sssp.proofs.Tables.TablesExist
use Rattle.fab_sssp.proofs.laws.least_weight_tables_exist.Goals as goal

pub returns : goal.returns
returns c = TablesExist.least_weight_tables_exist
