use Rattle.fab_tables.proofs.Rows.LanesChange
use Rattle.fab_tables.proofs.laws.one_lane_changes.Goals as goal

pub returns : goal.returns
returns c = LanesChange.one_lane_changes
