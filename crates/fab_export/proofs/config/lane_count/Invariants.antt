use Rattle.std.proofs.Common.{◌≡◌}
use Rattle.fab_export.proofs.GreatestLanes.{greatest_to}
use Rattle.fab_export.proofs.config.lane_count.Given as goal

abbrev pub invariant-loop-level : goal.invariant-loop-level
invariant-loop-level l = l.count ≡ greatest_to l.written l.used l.level
