use Rattle.std.proofs.Common.{◌≡◌, ◌++◌, flat_map, take}
use Rattle.std.specs.List.{enumerate_from}
use Rattle.fab_top.specs.ChangeTexts.{numbers_text}
use Rattle.fab_top.proofs.change_texts.push_all_numbers.Given as goal

abbrev pub invariant-loop-c : goal.invariant-loop-c
invariant-loop-c l = l.to.items ≡ l.initial.to.items ++ flat_map (numbers_text l.fabric l.lanes) (take l.c (enumerate_from 0 l.fabric.channels))
