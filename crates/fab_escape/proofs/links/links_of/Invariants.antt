-- The links of the switches so far.
use Rattle.fab_escape.specs.Trees.{AreLinks}
use Rattle.fab_escape.proofs.links.links_of.Given as goal

abbrev pub invariant-loop-s : goal.invariant-loop-s
invariant-loop-s l = AreLinks l.fabric l.s l.roots l.links.items
