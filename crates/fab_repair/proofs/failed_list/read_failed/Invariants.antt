use Rattle.std.proofs.Common.{◌≡◌, ◌-◌, ◌≤◌, length}
use Rattle.fab_repair.specs.FailedList.{cables_in}
use Rattle.fab_repair.proofs.ListSoFar.{list_from}
use Rattle.fab_repair.proofs.failed_list.read_failed.Given as goal

abbrev pub invariant-loop-found : goal.invariant-loop-found
invariant-loop-found l = record {
  rest : list_from l.cables.items l.line l.text l.from ≡ cables_in l.fn.text;
  few : length l.cables.items ≤ l.line;
  count : l.line ≤ l.from;
  within : l.from ≤ length l.text;
}

abbrev pub decreases-loop-found : goal.decreases-loop-found
decreases-loop-found l = length l.text - l.from
