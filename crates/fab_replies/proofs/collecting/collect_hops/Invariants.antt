-- The hops so far are good, and are collected.
use Rattle.fab_replies.proofs.WayHops.{IsCollectingOn}
use Rattle.fab_replies.proofs.collecting.collect_hops.Given as goal

abbrev pub invariant-loop-hop : goal.invariant-loop-hop
invariant-loop-hop l =
    (goal.iterator-loop-hop).can_next l.hop-iterator × (goal.iterator-loop-hop).is_finite l.hop-iterator
    × IsCollectingOn l.reading.fabric l.reading.entries l.reading.lanes l.fn.way l.hop-iterator.hops l.initial.dependencies l.dependencies l.marks l.before l.known
