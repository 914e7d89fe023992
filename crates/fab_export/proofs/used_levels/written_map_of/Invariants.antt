use Rattle.std.proofs.Common.{◌≡◌, ℕ, ◌<◌, ◌≤◌, false, length, slice_index_or}
use Rattle.std.specs.Prelude.{if◌then◌else◌}
use Rattle.fab_tables.specs.LaneTables.{lane}
use Rattle.fab_export.proofs.used_levels.written_map_of.Given as goal

abbrev pub invariant-loop-level : goal.invariant-loop-level
invariant-loop-level l = record {
  whole : length l.written ≡ 16;
  below : (k : ℕ) → k < l.level → slice_index_or l.written k 15 ≡ (if slice_index_or l.used k false then lane l.lanes 0 k else 15);
  above : (k : ℕ) → l.level ≤ k → slice_index_or l.written k 15 ≡ 15;
}
