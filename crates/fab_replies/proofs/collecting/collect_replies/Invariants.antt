-- The replies from the LIDs so far are good, and are collected.
use Rattle.fab_replies.specs.Jointly.{AreMarked}
use Rattle.fab_replies.proofs.Sending.{AreRepliesFrom}
use Rattle.fab_replies.proofs.collecting.collect_replies.Given as goal

abbrev pub invariant-loop-from : goal.invariant-loop-from
invariant-loop-from l =
    AreMarked l.reading.fabric l.reading.entries l.reading.lanes l.lid.0 l.marks l.dependencies
    × AreRepliesFrom l.reading.fabric l.reading.entries l.reading.lanes l.lid.0 l.initial.dependencies l.dependencies l.from-index
