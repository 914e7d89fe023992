use Rattle.std.proofs.Common.{◌≡◌, take, is_some, count_by}
use Rattle.fab_drain.proofs.state.State.packets.Given as goal

abbrev pub invariant-loop-cell : goal.invariant-loop-cell
invariant-loop-cell l = l.packets ≡ count_by is_some (take l.cell-index l.cells)
