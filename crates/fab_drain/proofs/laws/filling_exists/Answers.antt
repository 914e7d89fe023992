use Rattle.fab_drain.proofs.FillingExists
use Rattle.fab_drain.proofs.laws.filling_exists.Goals as goal

pub returns : goal.returns
returns c = FillingExists.filling_exists
