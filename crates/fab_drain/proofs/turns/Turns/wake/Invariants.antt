-- Those so far are ready.
use Rattle.fab_drain.proofs.Readying.{IsWaking}
use Rattle.fab_drain.proofs.turns.Turns.wake.Given as goal

abbrev pub invariant-loop-number : goal.invariant-loop-number
invariant-loop-number l = IsWaking l.fn.self.ready.keys l.self.1.0.keys l.number-items l.number-index
