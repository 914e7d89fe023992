-- The hop counts of the switches so far.
use Rattle.fab_escape.specs.Trees.{AreHopsToRoots}
use Rattle.fab_escape.proofs.jumps.depths_of.Given as goal

abbrev pub invariant-loop-s : goal.invariant-loop-s
invariant-loop-s l = AreHopsToRoots l.fabric l.s l.roots l.depths.items
