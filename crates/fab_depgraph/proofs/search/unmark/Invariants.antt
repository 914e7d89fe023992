use Rattle.std.proofs.Common.{length}
use Rattle.fab_depgraph.proofs.Searching.Found.{IsForgetting}
use Rattle.fab_depgraph.proofs.search.unmark.Given as goal

abbrev pub invariant-loop-channel : goal.invariant-loop-channel
invariant-loop-channel l = IsForgetting (length l.initial.marks) l.marks l.channels l.channel-index
