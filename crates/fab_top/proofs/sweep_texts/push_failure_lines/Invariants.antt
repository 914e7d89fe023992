use Rattle.std.proofs.Common.{◌≡◌, ◌++◌, flat_map, take}
use Rattle.fab_top.specs.ReportTexts.{failure_line}
use Rattle.fab_top.proofs.sweep_texts.push_failure_lines.Given as goal

abbrev pub invariant-loop-row : goal.invariant-loop-row
invariant-loop-row l = l.to.items ≡ l.initial.to.items ++ flat_map (failure_line l.fabric) (take l.row-index l.rows)
