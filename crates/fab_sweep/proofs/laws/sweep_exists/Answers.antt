use Rattle.fab_sweep.proofs.SweepExists
use Rattle.fab_sweep.proofs.laws.sweep_exists.Goals as goal

pub returns : goal.returns
returns c = SweepExists.sweep_exists
