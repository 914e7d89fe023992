-- The virtual channels so far are numbered.
use Rattle.fab_certify.specs.Numbers.{IsNumbering}
use Rattle.fab_certify.proofs.numbers.set_numbers.Given as goal

abbrev pub invariant-loop-channel : goal.invariant-loop-channel
invariant-loop-channel l = IsNumbering l.dependencies l.levels l.initial.lanes l.lanes l.channel 0

abbrev pub invariant-loop-lane : goal.invariant-loop-lane
invariant-loop-lane l = IsNumbering l.dependencies l.levels l.fn.lanes l.lanes l.channel l.lane
