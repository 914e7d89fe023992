use Rattle.fab_tables.proofs.Faults.HopsJudged.{IsJudging, HaveMarked}
use Rattle.fab_tables.proofs.judging.first_hop_fault.Given as goal

abbrev pub invariant-loop-hop : goal.invariant-loop-hop
invariant-loop-hop l =
    (goal.iterator-loop-hop).can_next l.hop-iterator × (goal.iterator-loop-hop).is_finite l.hop-iterator
    × ((judging : IsJudging l.faults l.fabric l.tables l.lanes l.lid l.fn.start l.level l.hop-iterator l.before l.is_judged)
    × HaveMarked l.faults l.fabric l.tables l.lanes l.lid l.fn.start l.level l.fn.marks l.marks judging.passed)
