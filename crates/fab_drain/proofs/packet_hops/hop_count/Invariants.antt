use Rattle.std.proofs.Common.{◌≡◌, ◌+◌, length}
use Rattle.fab_tables.specs.Reading.{hops_read}
use Rattle.fab_drain.proofs.packet_hops.hop_count.Given as goal

abbrev pub invariant-loop-count : goal.invariant-loop-count
invariant-loop-count l =
    (goal.iterator-loop-count).can_next l.hops × (goal.iterator-loop-count).is_finite l.hops
    × (l.count + length l.hops.hops ≡ length (hops_read l.fabric l.plan l.fn.terminal l.fn.lid.0))
