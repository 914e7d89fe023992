-- The roots of the switches so far.
use Rattle.fab_escape.specs.Trees.{AreRoots}
use Rattle.fab_escape.proofs.roots.roots_of.Given as goal

abbrev pub invariant-loop-index : goal.invariant-loop-index
invariant-loop-index l = AreRoots l.fabric l.lane l.index l.roots.items
