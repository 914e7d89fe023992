use Rattle.fab_certify.proofs.Engines.OneLane.{AreLeveled}
use Rattle.fab_certify.proofs.one_lane.set_levels.Given as goal

abbrev pub invariant-loop-start : goal.invariant-loop-start
invariant-loop-start l = AreLeveled l.fabric l.lid.0 l.starts l.initial.lanes l.lanes l.start-index
