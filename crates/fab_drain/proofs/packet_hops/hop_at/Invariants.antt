-- As far behind the hops so far stands the one that is sought.
use Rattle.std.proofs.Common.{◌≡◌}
use Rattle.std.specs.Prelude.{slice_get}
use Rattle.fab_drain.specs.Loads.{hops_of}
use Rattle.fab_drain.proofs.packet_hops.hop_at.Given as goal

abbrev pub invariant-loop-hop : goal.invariant-loop-hop
invariant-loop-hop l =
    (goal.iterator-loop-hop).can_next l.hop-iterator × (goal.iterator-loop-hop).is_finite l.hop-iterator
    × (slice_get l.hop-iterator.hops l.left ≡ slice_get (hops_of l.fabric l.plan l.fn.packet) l.fn.position)
