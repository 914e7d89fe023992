use Rattle.fab_dfsssp.proofs.PathsOver.{AddsBehindUpTo}
use Rattle.fab_dfsssp.proofs.paths_over.push_behind.Given as goal

abbrev pub invariant-loop-leaving : goal.invariant-loop-leaving
invariant-loop-leaving l = AddsBehindUpTo l.fabric l.tables l.path l.initial.behind.items l.leaving l.behind.items
