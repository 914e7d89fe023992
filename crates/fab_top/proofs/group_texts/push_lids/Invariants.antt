use Rattle.std.proofs.Common.{◌≡◌, ◌++◌, flat_map, take}
use Rattle.fab_model.specs.declared.rows.TerminalId.{TerminalId}
use Rattle.fab_top.specs.GroupTexts.{lid_row}
use Rattle.fab_top.proofs.group_texts.push_lids.Given as goal

abbrev pub invariant-loop-terminal : goal.invariant-loop-terminal
invariant-loop-terminal l = l.to.items ≡ l.initial.to.items ++ flat_map (λ (n : TerminalId). lid_row l.fabric n.0) (take l.terminal-index l.terminals)
