use Rattle.std.proofs.Common.{◌≡◌, ◌<◌, ℕ, length, get_or}
use Rattle.fab_tables.specs.LaneTables.{lane}
use Rattle.fab_dump.proofs.write_blocks.general_map.Given as goal

abbrev pub invariant-loop-level : goal.invariant-loop-level
invariant-loop-level l = record {
  long : length l.map ≡ 16;
  filled : (k : ℕ) → k < l.level → get_or l.map k 0 ≡ lane l.lanes l.switch.0 k;
}
