-- The text of the tables: for each switch a block, with a row for each LID that it reaches.
use Rattle.std.specs.Prelude.{ℕ, List, [], ◌∷◌, map, filter, flat_map, codes}
use Rattle.std.specs.List.{concat, enumerate_from}
use Rattle.fab_model.specs.declared.rows.SwitchRow.{SwitchRow}
use Rattle.fab_model.specs.Topology.{Topology, lids_of}
use Rattle.fab_tables.specs.Entries.{Entries, entry}
use Rattle.fab_dump.specs.Writing.{hex4, hex16, port3, lines_text, table_head_text}
use Rattle.fab_export.specs.PortGuids.{port_guid}
use Rattle.fab_export.specs.Reached.{is_reached}

pub record TableRow : Type 0 where
  pub lid : ℕ
  pub port : ℕ
  pub guid : ℕ  -- the port GUID of the LID

abbrev pub table_row : Topology → Entries → ℕ → ℕ → TableRow
table_row t e s lid = record { lid = lid; port = entry e s lid; guid = port_guid t lid }

-- the rows of a switch for some LIDs
abbrev pub rows_to : Topology → Entries → ℕ → List ℕ → List TableRow
rows_to t e s lids = map (table_row t e s) (filter (is_reached t e s) lids)

-- the rows of a switch, by LID
abbrev pub table_rows : Topology → Entries → ℕ → List TableRow
table_rows t e s = rows_to t e s (lids_of t)

unfoldable pub table_row_text : TableRow → List ℕ
table_row_text row = concat (hex4 row.lid ∷ codes " " ∷ port3 row.port ∷ codes " : portguid " ∷ hex16 row.guid ∷ [])

abbrev pub exported_block : Topology → Entries → ℕ × SwitchRow → List (List ℕ)
exported_block t e s = table_head_text (lids_of t) s.1 ∷ map table_row_text (table_rows t e s.0)

abbrev pub table_lines : Topology → Entries → List (List ℕ)
table_lines t e = codes "# fabroute tables" ∷ flat_map (exported_block t e) (enumerate_from 0 t.switches)

abbrev pub tables_text : Topology → Entries → List ℕ
tables_text t e = lines_text (table_lines t e)
