use Rattle.std.proofs.Common.{sym, ◌∙◌, arith}
use Rattle.fab_model.specs.Topology.{lids_of}
use Rattle.fab_model.proofs.LidsInUse.{as_many, lid_there}
use Rattle.fab_tables.proofs.Faults.StartFaults.{none_found, none_by_lid, first_by_lid, one_lid_clear}
use Rattle.fab_tables.proofs.Faults.SoughtFaults.{sought_faults}
use Rattle.fab_tables.proofs.lane_faults.first_lane_fault.Goals as goal

pub returns-then-is_some-clause-fault : goal.returns-then-is_some-clause-fault
returns-then-is_some-clause-fault c =
    first_by_lid c.args.fabric.now c.args.tables.now c.args.lanes.now _ (sought_faults c.args.fabric.now c.args.tables.now c.args.lanes.now c.args.faults) c.requires.tables c.loop-lid.lid-index _
    (lid_there c.lids_in_use-lid-items.result.now (lids_of c.args.fabric.now) c.lids_in_use-lid-items.ensures.lids c.loop-lid.lid-index _ c.loop-lid-test.true)
    c.loop-lid.invariant.1 c.fault_for-fault.result (sym c.is_some.ensures ∙ c.if-is_some.true) c.fault_for-fault.ensures.fault

pub loop-lid-preserved : goal.loop-lid-preserved
loop-lid-preserved c = (
  c.fault_for-fault.ensures.room,
  one_lid_clear c.args.fabric.now c.args.tables.now c.args.lanes.now _ (sought_faults c.args.fabric.now c.args.tables.now c.args.lanes.now c.args.faults) c.requires.tables c.loop-lid.lid-index _
      (lid_there c.lids_in_use-lid-items.result.now (lids_of c.args.fabric.now) c.lids_in_use-lid-items.ensures.lids c.loop-lid.lid-index _ c.loop-lid-test.true)
      c.loop-lid.invariant.1 c.fault_for-fault.result (none_found c.fault_for-fault.result (sym c.is_some.ensures ∙ c.if-is_some.false)) c.fault_for-fault.ensures.fault,
)

pub returns-clause-fault : goal.returns-clause-fault
returns-clause-fault c =
    none_by_lid c.args.fabric.now c.args.tables.now c.args.lanes.now _ (sought_faults c.args.fabric.now c.args.tables.now c.args.lanes.now c.args.faults)
    (λ k lid low at. c.loop-lid.invariant.1 k lid (omega (arith, as_many c.lids_in_use-lid-items.result.now (lids_of c.args.fabric.now) c.lids_in_use-lid-items.ensures.lids)) at)

pub fault_for-fault-requires-clause-starts : goal.fault_for-fault-requires-clause-starts
fault_for-fault-requires-clause-starts c = c.standing-starts.ensures c.args.fabric.now c.requires.starts
