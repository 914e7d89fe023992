use Rattle.std.proofs.Common.{take, []}
use Rattle.std.specs.Prelude.{option_map}
use Rattle.fab_model.specs.Topology.{terminal_id, terminal_at}
use Rattle.fab_model.specs.Indexed.{only, IsByPort}
use Rattle.fab_model.proofs.indexes.terminals_by_port.Given as goal

abbrev pub invariant-loop-number : goal.invariant-loop-number
invariant-loop-number l =
    IsByPort (λ switch port. option_map terminal_id (terminal_at (only [] [] (take l.number l.rows)) switch port)) l.switches l.cells.items
