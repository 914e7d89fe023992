use Rattle.std.proofs.Common.{arith}
use Rattle.fab_certify.proofs.Engines.Mapping.{mapping_begins, one_more_level, one_more_switch, all_mapped}
use Rattle.fab_certify.proofs.lane_per_level.engine_lanes.Goals as goal

pub loop-switch-init : goal.loop-switch-init
loop-switch-init c = rw c.in_ok-lanes.ensures (mapping_begins c.args.fabric.now c.switches-switch-end.ensures.kept c.args.count c.requires)

pub loop-level-preserved : goal.loop-level-preserved
loop-level-preserved c =
    rw c.set_lane.ensures (one_more_level c.args.fabric.now c.args.count c.loop-level.lanes c.loop-switch.switch c.loop-level.level c.loop-level.invariant
    (omega (arith, c.loop-switch-test.true, c.switches-switch-end.ensures.count)) (omega (arith, c.loop-level-test.true, c.requires.1)))

pub loop-switch-preserved : goal.loop-switch-preserved
loop-switch-preserved c =
    one_more_switch c.args.fabric.now c.args.count c.loop-level.lanes c.loop-switch.switch c.loop-level.level c.loop-level.invariant (omega (arith, c.loop-level-test.false, c.loop-level.auto.level-end))

pub returns : goal.returns
returns c = all_mapped c.args.fabric.now c.args.count c.loop-switch.lanes c.loop-switch.switch c.loop-switch.invariant (omega (arith, c.loop-switch-test.false, c.loop-switch.auto.switch-end, c.switches-switch-end.ensures.count))
