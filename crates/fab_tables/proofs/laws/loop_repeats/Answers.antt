use Rattle.fab_tables.proofs.Paths.LoopRepeats
use Rattle.fab_tables.proofs.laws.loop_repeats.Goals as goal

pub returns : goal.returns
returns c = LoopRepeats.loop_repeats
