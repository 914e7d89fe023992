use Rattle.std.proofs.Common.{◌≡◌, ◌++◌, flat_map, take}
use Rattle.std.specs.List.{enumerate_from}
use Rattle.fab_top.specs.ReportTexts.{load_line}
use Rattle.fab_top.proofs.report_texts.push_load_lines.Given as goal

abbrev pub invariant-loop-c : goal.invariant-loop-c
invariant-loop-c l = l.to.items ≡ l.initial.to.items ++ flat_map (load_line l.fabric l.loads) (take l.c (enumerate_from 0 l.fabric.channels))
