-- Those of the first LIDs are counted.
use Rattle.std.proofs.Common.{◌≡◌, ◌+◌, ◌≤◌}
use Rattle.fab_nue.specs.Laying.{left_to_lay}
use Rattle.fab_nue.proofs.laid_lids.count_laid.Given as goal

abbrev pub invariant-loop-lid : goal.invariant-loop-lid
invariant-loop-lid l = record {
  counted : l.laid + left_to_lay l.fabric l.lanes l.kept l.lane l.lid-index ≡ left_to_lay l.fabric l.lanes l.kept l.lane 0;
  few : l.laid ≤ l.lid-index;
}
