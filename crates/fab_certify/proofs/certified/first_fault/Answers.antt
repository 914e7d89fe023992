use Rattle.std.proofs.Common.{sym, ◌∙◌}
use Rattle.fab_certify.proofs.Refusals.{unreached_found, lane_fault_found, reached}
use Rattle.fab_certify.proofs.certified.first_fault.Goals as goal

pub first_lane_fault-requires-clause-reaches : goal.first_lane_fault-requires-clause-reaches
first_lane_fault-requires-clause-reaches c = reached c.args.fabric.now c.args.tables.now c.first_unreached-unreached.result (sym c.is_some.ensures ∙ c.if-is_some.false) c.first_unreached-unreached.ensures

pub returns-then-is_some-clause-fault : goal.returns-then-is_some-clause-fault
returns-then-is_some-clause-fault c = unreached_found c.args.fabric.now c.args.tables.now c.args.lanes.now c.first_unreached-unreached.result (sym c.is_some.ensures ∙ c.if-is_some.true) c.first_unreached-unreached.ensures

pub returns-clause-fault : goal.returns-clause-fault
returns-clause-fault c =
    lane_fault_found c.args.fabric.now c.args.tables.now c.args.lanes.now c.first_unreached-unreached.result c.first_lane_fault.result (sym c.is_some.ensures ∙ c.if-is_some.false) c.first_unreached-unreached.ensures c.first_lane_fault.ensures.fault
