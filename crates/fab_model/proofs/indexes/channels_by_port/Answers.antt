use Rattle.std.proofs.Common.{arith}
use Rattle.fab_model.specs.declared.rows.ChannelRow.{ChannelRow}
use Rattle.fab_model.specs.Topology.{channel_id}
use Rattle.fab_model.proofs.Tables.{is_by_port_more, leave_apart}
use Rattle.fab_model.proofs.indexes.channels_by_port.Goals as goal

pub loop-number-preserved : goal.loop-number-preserved
loop-number-preserved c =
    is_by_port_more (λ (row : ChannelRow). row.tail.0) (λ (row : ChannelRow). row.port) channel_id c.args.switches c.args.rows.now c.loop-number.number _ c.loop-number.cells.items
    (omega arith) (c.requires.tails c.loop-number.number _ (omega arith)) (omega arith) (leave_apart c.args.rows.now c.requires.rise) c.loop-number.invariant
