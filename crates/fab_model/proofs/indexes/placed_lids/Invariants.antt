use Rattle.std.proofs.Common.{◌≡◌, map}
use Rattle.std.specs.Prelude.{filter}
use Rattle.std.specs.List.{range_with_len}
use Rattle.fab_model.specs.declared.rows.Lid.{Lid}
use Rattle.fab_model.specs.Indexed.{has_place}
use Rattle.fab_model.proofs.indexes.placed_lids.Given as goal

abbrev pub invariant-loop-lid : goal.invariant-loop-lid
invariant-loop-lid l = map (λ (lid : Lid). lid.0) l.lids.items ≡ filter (has_place l.places) (range_with_len 0 l.lid)
