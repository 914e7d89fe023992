use Rattle.std.proofs.Common.{take, []}
use Rattle.std.specs.Prelude.{option_map}
use Rattle.fab_model.specs.Topology.{channel_id, channel_at}
use Rattle.fab_model.specs.Indexed.{only, IsByPort}
use Rattle.fab_model.proofs.indexes.channels_by_port.Given as goal

abbrev pub invariant-loop-number : goal.invariant-loop-number
invariant-loop-number l =
    IsByPort (λ switch port. option_map channel_id (channel_at (only [] (take l.number l.rows) []) switch port)) l.switches l.cells.items
