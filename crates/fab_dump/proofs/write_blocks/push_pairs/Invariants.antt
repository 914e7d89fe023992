use Rattle.std.proofs.Common.{◌≡◌, ◌++◌, take}
use Rattle.fab_dump.specs.Writing.{lines_text, pair_rows}
use Rattle.fab_dump.specs.BlockValues.{AreUpTo}
use Rattle.fab_dump.proofs.write_blocks.push_pairs.Given as goal

abbrev pub invariant-loop-next : goal.invariant-loop-next
invariant-loop-next l = record {
  so_far : l.text.items ≡ l.initial.text.items ++ lines_text (pair_rows (take l.next l.lanes.pairs) l.switch.0);
  around : AreUpTo l.lanes.pairs l.switch.0 l.next;
}
