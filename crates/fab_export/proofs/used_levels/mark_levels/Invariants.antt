use Rattle.std.proofs.Common.{take}
use Rattle.fab_model.specs.Topology.{lids_of}
use Rattle.fab_export.proofs.MarkedLevels.{AreMarked}
use Rattle.fab_export.proofs.used_levels.mark_levels.Given as goal

abbrev pub invariant-loop-lid : goal.invariant-loop-lid
invariant-loop-lid l = AreMarked l.reached.fabric l.reached.entries l.lanes l.source.0 l.initial.used l.used (take l.lid-index (lids_of l.reached.fabric))
