use Rattle.std.proofs.Common.{take}
use Rattle.fab_rings.specs.Layers.{TakesEdges}
use Rattle.fab_rings.proofs.layers.take_edges.Given as goal

abbrev pub invariant-loop-successor : goal.invariant-loop-successor
invariant-loop-successor l = TakesEdges (take l.successor-index l.successors) l.initial.left l.left l.initial.next.items l.next.items
