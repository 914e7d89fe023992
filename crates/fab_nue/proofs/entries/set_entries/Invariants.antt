-- The first switches have their entries.
use Rattle.fab_nue.proofs.Laying.TreeTables.{AreEntriesBelow}
use Rattle.fab_nue.proofs.entries.set_entries.Given as goal

abbrev pub invariant-loop-s : goal.invariant-loop-s
invariant-loop-s l = AreEntriesBelow l.fabric l.lid.0 l.tree l.fn.tables l.tables l.s
