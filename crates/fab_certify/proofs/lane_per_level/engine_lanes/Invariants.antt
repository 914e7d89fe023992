use Rattle.fab_certify.specs.Mapping.{IsMapping}
use Rattle.fab_certify.proofs.lane_per_level.engine_lanes.Given as goal

abbrev pub invariant-loop-switch : goal.invariant-loop-switch
invariant-loop-switch l = IsMapping l.fabric l.count l.lanes l.switch 0

abbrev pub invariant-loop-level : goal.invariant-loop-level
invariant-loop-level l = IsMapping l.fabric l.count l.lanes l.switch l.level
