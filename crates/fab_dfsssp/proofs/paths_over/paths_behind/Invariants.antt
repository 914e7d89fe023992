use Rattle.fab_dfsssp.proofs.PathsOver.{ArePathsBehind}
use Rattle.fab_dfsssp.proofs.paths_over.paths_behind.Given as goal

abbrev pub invariant-loop-path : goal.invariant-loop-path
invariant-loop-path l = ArePathsBehind l.fabric l.tables l.layer l.path-index l.behind.items
