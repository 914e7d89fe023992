use Rattle.std.proofs.Common.{◌≡◌, ◌++◌, map, take}
use Rattle.fab_model.specs.declared.rows.Lid.{Lid}
use Rattle.fab_dump.specs.Writing.{lines_text}
use Rattle.fab_export.specs.TablesText.{rows_to, table_row_text}
use Rattle.fab_export.proofs.tables.push_rows.Given as goal

abbrev pub invariant-loop-lid : goal.invariant-loop-lid
invariant-loop-lid l =
    l.text.items ≡ l.initial.text.items ++ lines_text (map table_row_text (rows_to l.reached.fabric l.reached.entries l.switch.0 (map (λ (lid : Lid). lid.0) (take l.lid-index l.lid-items))))
