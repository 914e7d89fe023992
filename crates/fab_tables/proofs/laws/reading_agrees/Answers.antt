use Rattle.fab_tables.proofs.Rows.ReadLanes
use Rattle.fab_tables.proofs.laws.reading_agrees.Goals as goal

pub returns : goal.returns
returns c = ReadLanes.reading_agrees
