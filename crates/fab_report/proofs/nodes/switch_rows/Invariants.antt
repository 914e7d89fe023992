use Rattle.std.proofs.Common.{◌≡◌, map}
use Rattle.std.specs.List.{range_with_len}
use Rattle.fab_report.specs.Recipes.{switch_row}
use Rattle.fab_report.proofs.nodes.switch_rows.Given as goal

abbrev pub invariant-loop-s : goal.invariant-loop-s
invariant-loop-s l = l.rows.items ≡ map (switch_row l.recipe) (range_with_len 0 l.s)
