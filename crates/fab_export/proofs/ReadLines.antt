-- What the lines of the tables' text say to a reader of plain dumps.
use Rattle.std.proofs.Common.{◌≡◌, ℕ, ◌<◌, ◌^◌, true, List, [], ◌∷◌, ◌++◌, refl, ◌∙◌, ap, arith, Option, Some, None, codes, slice_get}
use Rattle.std.specs.Prelude.{is_some, if◌then◌else◌}
use Rattle.fab_text.specs.Fields.{fields, parts, without_empty, dec}
use Rattle.fab_model.specs.declared.rows.SwitchRow.{SwitchRow}
use Rattle.fab_model.specs.Topology.{Topology, lids_of, switch_of}
use Rattle.fab_model.specs.WellFormed.{IsFabric}
use Rattle.fab_tables.specs.Entries.{index_of}
use Rattle.fab_dump.specs.declared.fault.PlanFault.TheVariants.{TwiceBlock, TwiceRow}
use Rattle.fab_dump.specs.Given.{Given}
use Rattle.fab_dump.specs.Given.Given.{TableBlock, Port}
use Rattle.fab_dump.specs.Lines.{Form, State, Next, line_says, table_guid, table_head, table_of, adds, table_row, both, short_table_row}
use Rattle.fab_dump.specs.Lines.Next.{Goes}
use Rattle.fab_dump.specs.Reading.{dump_form, nothing_read}
use Rattle.fab_dump.specs.Writing.{hex4, hex16, port3, lids_text, table_head_text}
use Rattle.fab_dump.proofs.Round.Lines.{version_written, written_long}
use Rattle.fab_dump.proofs.Round.LinesTables.{table_head_said}
use Rattle.fab_dump.proofs.Round.LinesWords.{hex4_word, port_word}
use Rattle.fab_dump.proofs.Round.WrittenFields.{fields_more}
use Rattle.fab_text.proofs.Words.{words_more}
use Rattle.fab_dump.proofs.Round.WrittenNumbers.{lid_read, port_spelled, length-port}
use Rattle.fab_text.proofs.SpelledFields.{dec_spelled}
use Rattle.fab_export.specs.TablesText.{TableRow, table_row_text}

-- the state that a line leads to
abbrev pub state_of : Next → State
state_of (Goes s) = s
state_of _ = nothing_read

-- the block of a switch is open, and so much was said
abbrev pub opened : ℕ → List Given → State
opened k given = record { open_block = (state_of (table_of dump_form 1 nothing_read (Some k))).open_block; given = given }

-- ---- heads

-- a reader of the written version, and what it finds
abbrev form_2 : Form
form_2 = record { version = version_written None; count = None }

given_switch : List Given → ℕ
given_switch (TableBlock k ∷ given) = k
given_switch _ = 0

switch_named : (t : Topology) (k : ℕ) (guid : Option ℕ) → table_head t form_2 1 nothing_read guid ≡ Goes (opened k (TableBlock k ∷ [])) → (g : ℕ) × (guid ≡ Some g) × (switch_of t g ≡ Some k)
unfolding given_switch
switch_named t k None is = absurd (cc)
switch_named t k (Some g) is = (g, refl, go (switch_of t g) is)
  where
    go : (found : Option ℕ) → table_of form_2 1 nothing_read found ≡ Goes (opened k (TableBlock k ∷ [])) → found ≡ Some k
    go None x = absurd (cc)
    go (Some j) x = ap Some (ap (λ next. given_switch (state_of next).given) x)

module _ (t : Topology) (k : ℕ) (row : SwitchRow) (fabric : IsFabric t) (at : slice_get t.switches k ≡ Some row) where
  named : (g : ℕ) × (table_guid (table_head_text (lids_of t) row) ≡ Some g) × (switch_of t g ≡ Some k)
  unfolding table_head_text lids_text
  named = switch_named t k (table_guid (table_head_text (lids_of t) row)) (table_head_said t form_2 1 nothing_read k row fabric (written_long None) tt at)

  -- the head opens the block of its switch
  pub head_said : (n : ℕ) (s : State) → line_says t dump_form n s (table_head_text (lids_of t) row) ≡ adds (TwiceBlock n) s (opened k []).open_block (TableBlock k ∷ [])
  unfolding table_head_text lids_text
  head_said n s = ap (table_head t dump_form n s) named.1 ∙ ap (table_of dump_form n s) named.2

-- ---- rows

-- a row that is read
module _ (t : Topology) (k : ℕ) (given : List Given) where
  of_kind : (n : ℕ) (row : TableRow) → line_says t dump_form n (opened k given) (table_row_text row) ≡ short_table_row t n (opened k given) k (table_row (fields (table_row_text row)))
  unfolding hex4 table_row_text
  of_kind n row = refl

  pub row_said : (n : ℕ) (row : TableRow) → row.lid < 2 ^ 16 → row.port < 256 → is_some (index_of row.lid (lids_of t)) ≡ true →
      line_says t dump_form n (opened k given) (table_row_text row) ≡ adds (TwiceRow n) (opened k given) (opened k []).open_block (Port k row.lid row.port ∷ [])
  unfolding table_row_text
  row_said n row low small used =
      of_kind n row
      ∙ ap (λ fs. short_table_row t n (opened k given) k (table_row fs)) row_fields
      ∙ ap (λ o. short_table_row t n (opened k given) k (both o (dec 3 255 (port3 row.port)))) (lid_read row.lid low)
      ∙ ap (λ o. short_table_row t n (opened k given) k (both (Some row.lid) o)) (dec_spelled 3 255 row.port (port3 row.port) (port_spelled row.port small) (omega (arith, length-port row.port)) (omega (arith, small)))
      ∙ ap (λ b. if b then adds (TwiceRow n) (opened k given) (opened k []).open_block (Port k row.lid row.port ∷ []) else Goes (opened k given)) used
    where
      row_fields : fields (table_row_text row) ≡ hex4 row.lid ∷ port3 row.port ∷ without_empty (parts (58 ∷ 32 ∷ (codes "portguid" ++ 32 ∷ (hex16 row.guid ++ []))))
      row_fields =
          fields_more (hex4 row.lid) (port3 row.port ++ 32 ∷ (58 ∷ 32 ∷ (codes "portguid" ++ 32 ∷ (hex16 row.guid ++ [])))) (hex4_word row.lid).solid
          ∙ ap (λ ws. hex4 row.lid ∷ ws) (words_more (port3 row.port) (58 ∷ 32 ∷ (codes "portguid" ++ 32 ∷ (hex16 row.guid ++ []))) (port_word row.port))
