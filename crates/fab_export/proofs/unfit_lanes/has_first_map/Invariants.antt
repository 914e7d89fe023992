use Rattle.std.specs.Prelude.{◌==◌}
use Rattle.fab_tables.specs.LaneTables.{lane}
use Rattle.std.proofs.Common.{◌≡◌, ◌<◌, ℕ, true}
use Rattle.fab_export.proofs.unfit_lanes.has_first_map.Given as goal

abbrev pub invariant-loop-level : goal.invariant-loop-level
invariant-loop-level l = (k : ℕ) → k < l.level → (lane l.lanes l.switch.0 k == lane l.lanes 0 k) ≡ true
