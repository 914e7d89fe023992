use Rattle.fab_dfsssp.proofs.PathsOver.{AreFirstPaths}
use Rattle.fab_dfsssp.proofs.paths_over.paths_from.Given as goal

abbrev pub invariant-loop-lid : goal.invariant-loop-lid
invariant-loop-lid l = AreFirstPaths l.fabric l.tables l.edge l.first.tail.0 l.lid-index l.paths.items
