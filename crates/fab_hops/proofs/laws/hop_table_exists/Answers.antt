use Rattle.fab_hops.proofs.TableExists
use Rattle.fab_hops.proofs.laws.hop_table_exists.Goals as goal

pub returns : goal.returns
returns c = TableExists.hop_table_exists
