use Rattle.fab_dfsssp.specs.Assigned.{IsBrokenBelow}
use Rattle.fab_dfsssp.proofs.breaking.broken_lanes.Given as goal

abbrev pub invariant-loop-lane : goal.invariant-loop-lane
invariant-loop-lane l = IsBrokenBelow l.fabric l.tables l.count l.lane l.lanes
