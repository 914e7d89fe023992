use Rattle.std.proofs.Common.{◌≡◌, ◌++◌, ◌∷◌, take}
use Rattle.std.specs.List.{flat_map}
use Rattle.fab_model.specs.declared.rows.Lid.{Lid}
use Rattle.fab_dump.specs.BlockValues.{value_text}
use Rattle.fab_dump.proofs.write_blocks.push_row.Given as goal

abbrev pub invariant-loop-lid : goal.invariant-loop-lid
invariant-loop-lid l = l.text.items ≡ l.initial.text.items ++ flat_map (λ (lid : Lid). 32 ∷ value_text l.values l.switch.0 lid.0) (take l.lid-index l.lids)
