use Rattle.std.proofs.Common.{◌≡◌}
use Rattle.std.specs.Prelude.{flat_map}
use Rattle.std.specs.List.{range_with_len}
use Rattle.fab_report.specs.Recipes.{leaf_cables}
use Rattle.fab_report.proofs.cables.tree_cables.Given as goal

abbrev pub invariant-loop-leaf : goal.invariant-loop-leaf
invariant-loop-leaf l = l.rows.items ≡ flat_map (leaf_cables l.leaves l.tops) (range_with_len 0 l.leaf)
