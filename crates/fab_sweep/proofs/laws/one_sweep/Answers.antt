use Rattle.fab_sweep.proofs.SweepRows
use Rattle.fab_sweep.proofs.laws.one_sweep.Goals as goal

pub returns : goal.returns
returns c = SweepRows.one_sweep
