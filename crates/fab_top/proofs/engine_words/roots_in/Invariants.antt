-- The roots so far stand in front of those of the words that are left.
use Rattle.std.proofs.Common.{length}
use Rattle.fab_top.proofs.RootWords.{AreRootsSoFar}
use Rattle.fab_top.proofs.engine_words.roots_in.Given as goal

abbrev pub invariant-loop-rest : goal.invariant-loop-rest
invariant-loop-rest l = AreRootsSoFar l.fn.words l.guids.items l.rest

abbrev pub decreases-loop-rest : goal.decreases-loop-rest
decreases-loop-rest l = length l.rest
