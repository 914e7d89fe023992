use Rattle.std.proofs.Common.{take, length}
use Rattle.std.specs.Prelude.{count_by, ◌==◌}
use Rattle.fab_model.specs.declared.rows.TerminalRow.{TerminalRow}
use Rattle.fab_report.specs.Counting.{AreCounts}
use Rattle.fab_report.proofs.loads.terminal_counts.Given as goal

abbrev pub invariant-loop-number : goal.invariant-loop-number
invariant-loop-number l = AreCounts (λ s. count_by (λ (p : TerminalRow). p.switch.0 == s) (take l.number l.fabric.terminals)) (length l.fabric.switches) l.counts.items
