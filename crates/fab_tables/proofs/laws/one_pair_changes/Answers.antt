use Rattle.fab_tables.proofs.Rows.LanesChange
use Rattle.fab_tables.proofs.laws.one_pair_changes.Goals as goal

pub returns : goal.returns
returns c = LanesChange.one_pair_changes
