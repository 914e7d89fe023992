use Rattle.fab_tables.proofs.Faults.FirstStarts.{AreFirstsSoFar}
use Rattle.fab_tables.proofs.starts.firsts_of.Given as goal

abbrev pub invariant-loop-start : goal.invariant-loop-start
invariant-loop-start l = AreFirstsSoFar l.starts l.firsts.items l.start-index l.source
