use Rattle.std.proofs.Common.{◌≡◌, map}
use Rattle.std.specs.List.{range_with_len}
use Rattle.fab_report.specs.Recipes.{adapter_row}
use Rattle.fab_report.proofs.nodes.adapter_rows.Given as goal

abbrev pub invariant-loop-number : goal.invariant-loop-number
invariant-loop-number l = l.rows.items ≡ map adapter_row (range_with_len 0 l.number)
