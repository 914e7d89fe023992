-- The packets and the replies to the LIDs so far are collected.
use Rattle.fab_replies.proofs.Sending.{AreCollectedTo}
use Rattle.fab_replies.proofs.collecting.collect.Given as goal

abbrev pub invariant-loop-lid : goal.invariant-loop-lid
invariant-loop-lid l = AreCollectedTo l.reading.fabric l.reading.entries l.reading.lanes l.marks l.dependencies l.lid-index
