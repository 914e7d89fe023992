use Rattle.std.proofs.Common.{arith}
use Rattle.fab_dfsssp.proofs.LanesStarted.{first_broken}
use Rattle.fab_dfsssp.proofs.StepsTaken.{steps_ended}
use Rattle.fab_dfsssp.proofs.breaking.broken_lanes.Goals as goal

pub loop-lane-init : goal.loop-lane-init
loop-lane-init c = first_broken c.args.fabric.now c.args.tables.now c.args.count c.in_ok-lanes.lanes c.in_ok-lanes.ensures.lanes

pub returns-clause-lanes : goal.returns-clause-lanes
returns-clause-lanes c =
    steps_ended c.args.fabric.now c.args.tables.now c.args.count c.loop-lane.lanes c.loop-lane.invariant.assigned c.requires.count.0
    (λ other less. c.loop-lane.invariant.acyclic other (omega (arith, less, c.loop-lane-test.false)))
