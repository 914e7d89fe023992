-- None of those that had a turn moved.
use Rattle.std.proofs.Common.{◌≡◌, length}
use Rattle.fab_drain.specs.Turns.{AreTurns}
use Rattle.fab_drain.proofs.state.State.move_next.Given as goal

abbrev pub invariant-loop-number : goal.invariant-loop-number
invariant-loop-number l = record {
  same : l.self ≡ l.fn.self;
  turns : AreTurns l.fabric l.plan l.self l.turns.ready.keys l.turns.waiting;
}

abbrev pub decreases-loop-number : goal.decreases-loop-number
decreases-loop-number l = length l.turns.ready.keys
