use Rattle.fab_sweep.proofs.FailureRows
use Rattle.fab_sweep.proofs.laws.failures_are_known.Goals as goal

pub returns : goal.returns
returns c = FailureRows.failures_are_known
