-- The starts so far have all levels.
use Rattle.fab_transit.proofs.MissingLevels.{HaveLevels}
use Rattle.fab_transit.proofs.levels.missing_for.Given as goal

abbrev pub invariant-loop-start : goal.invariant-loop-start
invariant-loop-start l = HaveLevels l.plans.fabric l.plans.change l.lid.0 l.starts l.start-index
