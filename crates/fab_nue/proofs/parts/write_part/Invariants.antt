-- The ways of the first sources are copied.
use Rattle.fab_nue.specs.OldRoutes.{IsOnWayOf, IsPartOf}
use Rattle.fab_nue.proofs.parts.write_part.Given as goal

abbrev pub invariant-loop-s : goal.invariant-loop-s
invariant-loop-s l = IsPartOf (IsOnWayOf l.fabric l.old l.lid.0 l.whole l.level l.s) l.whole l.part
