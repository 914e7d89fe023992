use Rattle.std.proofs.Common.{◌≡◌}
use Rattle.fab_export.proofs.MarkedLevels.{last_unmarked}
use Rattle.fab_export.proofs.used_levels.spare_level_of.Given as goal

abbrev pub invariant-loop-level : goal.invariant-loop-level
invariant-loop-level l = l.spare ≡ last_unmarked l.used l.level
