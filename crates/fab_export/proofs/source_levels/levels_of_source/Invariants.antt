use Rattle.std.proofs.Common.{◌≡◌, map, take}
use Rattle.fab_model.specs.Topology.{lids_of}
use Rattle.fab_export.specs.LevelsInUse.{level_to}
use Rattle.fab_export.proofs.source_levels.levels_of_source.Given as goal

abbrev pub invariant-loop-lid : goal.invariant-loop-lid
invariant-loop-lid l = l.row.items ≡ map (level_to l.reached.fabric l.reached.entries l.lanes l.source.0) (take l.lid-index (lids_of l.reached.fabric))
