use Rattle.fab_dump.proofs.Writing.PlanLengths.{written_is_short}
use Rattle.fab_dump.proofs.laws.written_is_short.Goals as goal

pub returns : goal.returns
returns c = written_is_short
