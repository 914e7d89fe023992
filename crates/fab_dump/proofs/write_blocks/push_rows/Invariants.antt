use Rattle.std.proofs.Common.{◌≡◌, ◌++◌, map}
use Rattle.std.specs.List.{range_with_len}
use Rattle.fab_dump.specs.BlockValues.{value_text}
use Rattle.fab_dump.specs.Writing.{lines_text, numbered_row}
use Rattle.fab_dump.proofs.write_blocks.push_rows.Given as goal

abbrev pub invariant-loop-number : goal.invariant-loop-number
invariant-loop-number l =
    l.text.items ≡ l.initial.text.items ++ lines_text (map (numbered_row l.fabric (value_text l.values l.switch.0)) (range_with_len 0 l.number))
