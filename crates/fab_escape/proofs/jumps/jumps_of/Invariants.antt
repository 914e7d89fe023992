-- The jumps of the switches so far.
use Rattle.std.proofs.Common.{◌≡◌}
use Rattle.fab_escape.specs.Forest.{Forest}
use Rattle.fab_escape.proofs.Climbed.{AreJumpsBelow}
use Rattle.fab_escape.proofs.jumps.jumps_of.Given as goal

abbrev pub invariant-loop-s : goal.invariant-loop-s
invariant-loop-s l = (f : Forest) → f.links ≡ l.links → AreJumpsBelow f l.s l.jumps.items
