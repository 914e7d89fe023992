-- The moves so far are those of the rule.
use Rattle.fab_drain.specs.Drains.{Drains}
use Rattle.fab_drain.specs.Loads.{IsLoad, hops_left}
use Rattle.fab_drain.specs.Turns.{AreTurns}
use Rattle.fab_drain.proofs.state.State.move_all.Given as goal

abbrev pub invariant-loop-turns : goal.invariant-loop-turns
invariant-loop-turns l = record {
  load : IsLoad l.fabric l.plan l.self;
  moves : Drains l.fabric l.plan l.moves l.fn.self l.self;
  turns : AreTurns l.fabric l.plan l.self l.turns.ready.keys l.turns.waiting;
}

abbrev pub decreases-loop-turns : goal.decreases-loop-turns
decreases-loop-turns l = hops_left l.self
