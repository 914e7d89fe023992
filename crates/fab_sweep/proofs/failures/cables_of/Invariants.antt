-- The cables of the channels so far.
use Rattle.std.proofs.Common.{◌≡◌, take, map}
use Rattle.std.specs.Prelude.{filter, ◌==◌}
use Rattle.fab_model.specs.declared.rows.ChannelRow.{ChannelRow}
use Rattle.fab_sweep.specs.Failures.{cable_of}
use Rattle.fab_sweep.proofs.failures.cables_of.Given as goal

abbrev pub invariant-loop-channel : goal.invariant-loop-channel
invariant-loop-channel l = l.cables.items ≡ map (cable_of l.fabric) (filter (λ (row : ChannelRow). row.tail.0 == l.fn.s.0) (take l.channel l.fabric.channels))
