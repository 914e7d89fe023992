-- The roots of the switches so far.
use Rattle.fab_updn.proofs.Roots.{AreRootsBelow}
use Rattle.fab_updn.proofs.ranks.roots_of.Given as goal

abbrev pub invariant-loop-index : goal.invariant-loop-index
invariant-loop-index l = AreRootsBelow l.fabric l.named l.index l.roots.items
