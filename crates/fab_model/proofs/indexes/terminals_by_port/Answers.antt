use Rattle.std.proofs.Common.{arith}
use Rattle.fab_model.specs.declared.rows.TerminalRow.{TerminalRow}
use Rattle.fab_model.specs.Topology.{terminal_id}
use Rattle.fab_model.proofs.Tables.{is_by_port_more}
use Rattle.fab_model.proofs.indexes.terminals_by_port.Goals as goal

pub loop-number-preserved : goal.loop-number-preserved
loop-number-preserved c =
    is_by_port_more (λ (row : TerminalRow). row.switch.0) (λ (row : TerminalRow). row.port) terminal_id c.args.switches c.args.rows.now c.loop-number.number _ c.loop-number.cells.items
    (omega arith) (c.requires.switches c.loop-number.number _ (omega arith)) (omega arith) c.requires.apart c.loop-number.invariant
