-- The first lanes have their forests.
use Rattle.fab_nue.specs.Forests.{AreForests}
use Rattle.fab_nue.proofs.forests.forests_of.Given as goal

abbrev pub invariant-loop-lane : goal.invariant-loop-lane
invariant-loop-lane l = AreForests l.fabric l.lane l.forests.items
