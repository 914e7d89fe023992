-- The packets of the starts so far are collected.
use Rattle.fab_replies.specs.Jointly.{AreMarked}
use Rattle.fab_replies.proofs.Sending.{ArePacketsFrom}
use Rattle.fab_replies.proofs.collecting.collect_packets.Given as goal

abbrev pub invariant-loop-start : goal.invariant-loop-start
invariant-loop-start l =
    AreMarked l.reading.fabric l.reading.entries l.reading.lanes l.lid.0 l.marks l.dependencies
    × ArePacketsFrom l.reading.fabric l.reading.entries l.reading.lanes l.lid.0 l.starts l.initial.dependencies l.dependencies l.start-index
