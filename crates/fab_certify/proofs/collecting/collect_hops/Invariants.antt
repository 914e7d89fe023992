-- The hops so far are collected.
use Rattle.fab_certify.proofs.Collected.CollectingHops.{IsCollectingOn}
use Rattle.fab_certify.proofs.collecting.collect_hops.Given as goal

abbrev pub invariant-loop-hop : goal.invariant-loop-hop
invariant-loop-hop l =
    (goal.iterator-loop-hop).can_next l.hop-iterator × (goal.iterator-loop-hop).is_finite l.hop-iterator
    × IsCollectingOn l.fabric l.tables l.lanes l.fn.lid l.fn.start l.level l.hop-iterator.hops l.initial.dependencies l.dependencies l.marks l.before l.known
