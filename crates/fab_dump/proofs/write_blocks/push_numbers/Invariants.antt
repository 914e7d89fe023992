use Rattle.std.proofs.Common.{◌≡◌, ◌++◌}
use Rattle.std.specs.List.{flat_map, range_with_len}
use Rattle.fab_dump.specs.Writing.{lines_text, number_line}
use Rattle.fab_dump.proofs.write_blocks.push_numbers.Given as goal

abbrev pub invariant-loop-lane : goal.invariant-loop-lane
invariant-loop-lane l =
    l.text.items ≡ l.initial.text.items ++ lines_text (flat_map (number_line l.fabric l.lanes (l.channel.0, l.row)) (range_with_len 0 l.lane))
