-- The LIDs so far have all levels.
use Rattle.fab_transit.proofs.MissingLevels.{HaveLids}
use Rattle.fab_transit.proofs.levels.first_missing_level.Given as goal

abbrev pub invariant-loop-lid : goal.invariant-loop-lid
invariant-loop-lid l = HaveLids l.plans.fabric l.plans.change l.lid-index
