use Rattle.std.proofs.Common.{◌≡◌, ◌++◌, flat_map, take}
use Rattle.std.specs.List.{enumerate_from}
use Rattle.fab_mcast.specs.GroupTrees.{entries_at}
use Rattle.fab_top.specs.GroupTexts.{entry_row}
use Rattle.fab_top.proofs.group_texts.push_entries.Given as goal

abbrev pub invariant-loop-s : goal.invariant-loop-s
invariant-loop-s l = l.to.items ≡ l.initial.to.items ++ flat_map (entry_row l.fabric) (take l.s (enumerate_from 0 (entries_at l.tables l.index)))
