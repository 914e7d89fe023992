use Rattle.std.proofs.Common.{take}
use Rattle.fab_depgraph.specs.Order.{AreNumberedFrom}
use Rattle.fab_depgraph.proofs.order.set_numbers.Given as goal

abbrev pub invariant-loop-place : goal.invariant-loop-place
invariant-loop-place l = AreNumberedFrom l.first (take l.place l.channels) l.initial.numbers l.numbers
