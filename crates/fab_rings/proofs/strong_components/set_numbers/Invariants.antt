-- The nodes so far have the number.
use Rattle.std.proofs.Common.{take}
use Rattle.fab_rings.specs.PathSearch.{AreNumbered}
use Rattle.fab_rings.proofs.strong_components.set_numbers.Given as goal

abbrev pub invariant-loop-node : goal.invariant-loop-node
invariant-loop-node l = AreNumbered (take l.node-index l.nodes) l.number l.initial.numbers l.numbers
