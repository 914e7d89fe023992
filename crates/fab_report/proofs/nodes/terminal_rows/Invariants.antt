use Rattle.std.proofs.Common.{◌≡◌, ◌-◌}
use Rattle.fab_report.proofs.Generated.TerminalLists.{places_below, places_so_far, rows_of}
use Rattle.fab_report.proofs.nodes.terminal_rows.Given as goal

abbrev pub invariant-loop-s : goal.invariant-loop-s
invariant-loop-s l = l.rows.items ≡ rows_of l.recipe (places_below l.recipe l.s)

abbrev pub invariant-loop-port : goal.invariant-loop-port
invariant-loop-port l = l.rows.items ≡ rows_of l.recipe (places_so_far l.recipe l.s l.first (l.port - l.first))
