use Rattle.std.proofs.Common.{◌≡◌, ◌++◌}
use Rattle.std.specs.Prelude.{flat_map, slice_get}
use Rattle.fab_tables.specs.Route.{route}
use Rattle.fab_tables.proofs.Paths.Ways.{IsOnWay}
use Rattle.fab_report.specs.Shown.{channel_text}
use Rattle.fab_report.proofs.shown.push_channels.Given as goal

abbrev pub invariant-loop-channel : goal.invariant-loop-channel
invariant-loop-channel l =
    (goal.iterator-loop-channel).can_next l.channel-iterator × (goal.iterator-loop-channel).is_finite l.channel-iterator
    × IsOnWay l.fabric l.tables l.fn.from.0 l.fn.lid.0 l.channel-iterator
    × (l.text.items ++ flat_map (λ c. channel_text l.fabric (slice_get l.fabric.channels c) ++ l.line_end) l.channel-iterator.channels
    ≡ l.initial.text.items ++ flat_map (λ c. channel_text l.fabric (slice_get l.fabric.channels c) ++ l.line_end) (route l.fabric l.tables l.fn.from.0 l.fn.lid.0).channels)
