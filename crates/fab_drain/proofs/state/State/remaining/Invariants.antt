use Rattle.std.proofs.Common.{◌≡◌, ◌*◌, ◌≤◌, take}
use Rattle.std.specs.Prelude.{sum_by}
use Rattle.fab_drain.specs.Loads.{hops_in_cell}
use Rattle.fab_drain.proofs.state.State.remaining.Given as goal

abbrev pub invariant-loop-cell : goal.invariant-loop-cell
invariant-loop-cell l = record {
  so_far : l.hops ≡ sum_by hops_in_cell (take l.cell-index l.cells);
  small : l.hops ≤ l.cell-index * 4294967295;
}
