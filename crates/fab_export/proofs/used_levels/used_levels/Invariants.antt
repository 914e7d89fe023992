use Rattle.std.proofs.Common.{◌≡◌, length}
use Rattle.fab_export.proofs.MarkedLevels.{AreUsed}
use Rattle.fab_export.proofs.used_levels.used_levels.Given as goal

abbrev pub invariant-loop-switch : goal.invariant-loop-switch
invariant-loop-switch l = record {
  whole : length l.used ≡ 16;
  used : AreUsed l.reached.fabric l.reached.entries l.lanes l.used l.switch;
}
