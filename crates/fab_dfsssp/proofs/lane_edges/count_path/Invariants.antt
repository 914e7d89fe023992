use Rattle.std.proofs.Common.{◌≡◌, ◌+◌, ◌<◌, ℕ, length}
use Rattle.std.specs.Prelude.{IfSome}
use Rattle.fab_model.specs.declared.rows.ChannelId.{ChannelId}
use Rattle.fab_tables.specs.Route.{route}
use Rattle.fab_tables.proofs.Paths.Ways.{IsOnWay}
use Rattle.fab_dfsssp.specs.CountedEdges.{times_of, IsWhole}
use Rattle.fab_dfsssp.specs.LaneCounts.{times_along}
use Rattle.fab_dfsssp.proofs.PathsCounted.{times_after}
use Rattle.fab_dfsssp.proofs.lane_edges.count_path.Given as goal

abbrev pub invariant-loop-channel : goal.invariant-loop-channel
invariant-loop-channel l =
    (goal.iterator-loop-channel).can_next l.channel-iterator × (goal.iterator-loop-channel).is_finite l.channel-iterator
    × IsOnWay l.fabric l.tables l.fn.path.from.0 l.fn.path.lid.0 l.channel-iterator
    × (length l.edges.heads ≡ length l.initial.edges.heads)
    × IsWhole l.edges
    × IfSome l.before (λ (c : ChannelId). c.0 < length l.fabric.channels)
    × ((edge : ℕ × ℕ) → times_of l.edges edge + times_after edge l.before l.channel-iterator.channels ≡ times_of l.initial.edges edge + times_along edge (route l.fabric l.tables l.fn.path.from.0 l.fn.path.lid.0).channels)
