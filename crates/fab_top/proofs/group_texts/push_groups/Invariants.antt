use Rattle.std.proofs.Common.{◌≡◌, ◌++◌, flat_map, take}
use Rattle.std.specs.List.{enumerate_from}
use Rattle.fab_top.specs.GroupTexts.{group_row}
use Rattle.fab_top.proofs.group_texts.push_groups.Given as goal

abbrev pub invariant-loop-index : goal.invariant-loop-index
invariant-loop-index l = l.to.items ≡ l.initial.to.items ++ flat_map (group_row l.fabric l.tables) (take l.index (enumerate_from 0 l.groups))
