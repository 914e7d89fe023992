use Rattle.std.proofs.Common.{◌≡◌}
use Rattle.std.specs.Prelude.{flat_map}
use Rattle.std.specs.List.{range_with_len}
use Rattle.fab_report.specs.Recipes.{torus_cables_of}
use Rattle.fab_report.proofs.cables.torus_cables.Given as goal

abbrev pub invariant-loop-s : goal.invariant-loop-s
invariant-loop-s l = l.cables.items ≡ flat_map (torus_cables_of l.columns l.rows) (range_with_len 0 l.s)
