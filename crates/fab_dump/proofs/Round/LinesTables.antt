-- What the lines of a table block say.
use Rattle.std.proofs.Common.{◌≡◌, ◌<◌, ◌-◌, ◌*◌, ◌^◌, ℕ, false, List, [], ◌∷◌, ◌++◌, length, map, get_or, Some, None, Option, codes, refl, sym, ◌∙◌, ap, arith, inl, inr}
use Rattle.std.specs.Prelude.{slice_get, slice_index, decimal, if◌then◌else◌, nat_lt, ◌==◌}
use Rattle.std.specs.List.{concat}
use Rattle.std.specs.Str.{bytes_eq}
use Rattle.std.proofs.lemmas.Bool.{ne_eqb, eq-eqb, cases_lt, cond_both}
use Rattle.std.proofs.lemmas.List.{append_assoc, get_or_past}
use Rattle.std.proofs.lemmas.List.Elements.{All-append, All-get_or, All-cons}
use Rattle.std.proofs.lemmas.Option.{slice_get_within, get_or_from_slice_get}
use Rattle.fab_text.specs.Bytes.{is_blank}
use Rattle.fab_text.specs.Fields.{fields, parts, without_empty, dec, hex, read_only, after_word}
use Rattle.fab_model.specs.declared.rows.SwitchRow.{SwitchRow}
use Rattle.fab_model.specs.Topology.{Topology, lids_of, switch_id, switch_of}
use Rattle.fab_model.specs.WellFormed.{IsFabric}
use Rattle.fab_model.proofs.Finds.{position_is}
use Rattle.fab_tables.specs.Entries.{Entries, AreEntries, entry, port_in_column, cell, index_of}
use Rattle.fab_tables.specs.Fit.{EntriesFit}
use Rattle.fab_tables.proofs.Joined.Ascending.{lids_are}
use Rattle.fab_dump.specs.declared.fault.PlanFault.TheVariants.{TwiceBlock, TwiceRow}
use Rattle.fab_dump.specs.declared.form.Block.TheVariants.{Table}
use Rattle.fab_dump.specs.declared.line_kind.LineKind.TheVariants.{TableHead}
use Rattle.fab_dump.specs.Given.{said_of}
use Rattle.fab_dump.specs.Given.Given.{TableBlock, Port}
use Rattle.fab_dump.specs.Lines.{Form, State, adds, line_says, kind_of, table_guid, table_head, table_of, long_table_row}
use Rattle.fab_dump.specs.Writing.{hex4, hex16, lids_text, switch_text, table_head_text, numbered_row, port3, row_of}
use Rattle.fab_dump.proofs.Round.LinesPlaces.{IsLong, WaitsForNone, kind_says, table_says}
use Rattle.fab_dump.proofs.Round.LinesWords.{text_word, hex4_word, hex16_word, port_word, digits_differ, solid_bytes, row_is_row, row_back}
use Rattle.fab_text.proofs.Words.{IsWord, high_word, words_more}
use Rattle.fab_dump.proofs.Round.WrittenFields.{fields_more}
use Rattle.fab_text.proofs.SpelledFields.{dec_spelled}
use Rattle.fab_text.proofs.Spelled.{Spells, IsHigh, decimal_spells, spelled_high}
use Rattle.fab_dump.proofs.Round.WrittenNumbers.{guid_read, port_spelled, length-port}

-- ---- the switch of a GUID

pub switch_found : (t : Topology) (k : ℕ) (row : SwitchRow) → IsFabric t → slice_get t.switches k ≡ Some row → switch_of t row.guid ≡ Some k
switch_found t k row fabric at =
    let low : k < length t.switches = slice_get_within t.switches k row at in
    let here : (get_or t.switches k row).guid ≡ row.guid = ap (λ (r : SwitchRow). r.guid) (get_or_from_slice_get t.switches k row row at) in
    position_is (λ (r : SwitchRow). r.guid == row.guid) t.switches k row low (eq-eqb (get_or t.switches k row).guid row.guid here)
    (λ j below. ne_eqb (get_or t.switches j row).guid row.guid (λ e. omega (arith, e, here, fabric.rows.switch_guids j k row below low)))

pub guid_low : (t : Topology) (k : ℕ) (row : SwitchRow) → IsFabric t → slice_get t.switches k ≡ Some row → row.guid < 2 ^ 64
guid_low t k row fabric at =
    let low : k < length t.switches = slice_get_within t.switches k row at in
    omega (arith, fabric.types.switch_guids k row low, ap (λ (r : SwitchRow). r.guid) (get_or_from_slice_get t.switches k row row at))

lid_low : (t : Topology) (k : ℕ) (row : SwitchRow) → IsFabric t → slice_get t.switches k ≡ Some row → row.lid.0 < 2 ^ 64
lid_low t k row fabric at =
    let low : k < length t.switches = slice_get_within t.switches k row at in
    omega (arith, (fabric.rows.switch_lids k row low).1, ap (λ (r : SwitchRow). r.lid.0) (get_or_from_slice_get t.switches k row row at))

-- ---- the fields of a head

-- the LIDs in brackets, apart from the words behind them
bracketed : (a b words others : List ℕ) → (a ++ (45 ∷ (b ++ (93 ∷ words)))) ++ others ≡ (a ++ (45 ∷ (b ++ 93 ∷ []))) ++ (words ++ others)
bracketed a b words others =
    append_assoc a (45 ∷ (b ++ (93 ∷ words))) others ∙ ap (λ bytes. a ++ (45 ∷ bytes)) (append_assoc b (93 ∷ words) others ∙ sym (append_assoc b (93 ∷ []) (words ++ others)))
    ∙ sym (append_assoc a (45 ∷ (b ++ 93 ∷ [])) (words ++ others))

module _ (a b d g desc : List ℕ) (aw : IsWord a) (bw : IsWord b) (dw : IsWord d) (gw : IsWord g) where
  abbrev in_brackets : List ℕ
  in_brackets = 91 ∷ (a ++ (45 ∷ (b ++ 93 ∷ [])))

  brackets_word : IsWord in_brackets
  brackets_word = record {
    solid = All-cons (λ byte. is_blank byte ≡ false) 91 (a ++ (45 ∷ (b ++ 93 ∷ []))) refl (All-append (λ byte. is_blank byte ≡ false) a (45 ∷ (b ++ 93 ∷ [])) aw.solid
        (All-cons (λ byte. is_blank byte ≡ false) 45 (b ++ 93 ∷ []) refl (All-append (λ byte. is_blank byte ≡ false) b (93 ∷ []) bw.solid (solid_bytes (93 ∷ []) refl))));
    some = omega arith;
  }

  abbrev behind_guid : List ℕ
  behind_guid = 40 ∷ (desc ++ codes "):")

  abbrev from_guid : List ℕ
  from_guid = codes "guid" ++ 32 ∷ (g ++ 32 ∷ behind_guid)

  abbrev from_lid : List ℕ
  from_lid = codes "Lid" ++ 32 ∷ (d ++ 32 ∷ from_guid)

  abbrev line : List ℕ
  line = concat (codes "Unicast lids [" ∷ a ∷ codes "-" ∷ b ∷ codes "] of switch " ∷ []) ++ concat (codes "Lid " ∷ d ∷ codes " guid " ∷ g ∷ codes " (" ∷ desc ∷ codes "):" ∷ [])

  abbrev apart : List ℕ
  apart = codes "Unicast" ++ 32 ∷ (codes "lids" ++ 32 ∷ (in_brackets ++ 32 ∷ (codes "of" ++ 32 ∷ (codes "switch" ++ 32 ∷ from_lid))))

  line_apart : line ≡ apart
  line_apart = ap (λ bytes. codes "Unicast lids [" ++ bytes) (bracketed a b (codes " of switch ") from_lid)

  guid_words : without_empty (parts from_guid) ≡ codes "guid" ∷ g ∷ without_empty (parts behind_guid)
  guid_words = words_more (codes "guid") (g ++ 32 ∷ behind_guid) (text_word (codes "guid") refl (omega arith)) ∙ ap (λ ws. codes "guid" ∷ ws) (words_more g behind_guid gw)

  lid_words : without_empty (parts from_lid) ≡ codes "Lid" ∷ d ∷ codes "guid" ∷ g ∷ without_empty (parts behind_guid)
  lid_words =
      words_more (codes "Lid") (d ++ 32 ∷ from_guid) (text_word (codes "Lid") refl (omega arith))
      ∙ ap (λ ws. codes "Lid" ∷ ws) (words_more d from_guid dw ∙ ap (λ ws. d ∷ ws) guid_words)

  head_fields : fields line ≡ codes "Unicast" ∷ codes "lids" ∷ in_brackets ∷ codes "of" ∷ codes "switch" ∷ codes "Lid" ∷ d ∷ codes "guid" ∷ g ∷ without_empty (parts behind_guid)
  head_fields =
      ap fields line_apart
      ∙ fields_more (codes "Unicast") (codes "lids" ++ 32 ∷ (in_brackets ++ 32 ∷ (codes "of" ++ 32 ∷ (codes "switch" ++ 32 ∷ from_lid)))) (solid_bytes (codes "Unicast") refl)
      ∙ ap (λ ws. codes "Unicast" ∷ ws) (words_more (codes "lids") (in_brackets ++ 32 ∷ (codes "of" ++ 32 ∷ (codes "switch" ++ 32 ∷ from_lid))) (text_word (codes "lids") refl (omega arith))
      ∙ ap (λ ws. codes "lids" ∷ ws) (words_more in_brackets (codes "of" ++ 32 ∷ (codes "switch" ++ 32 ∷ from_lid)) brackets_word
      ∙ ap (λ ws. in_brackets ∷ ws) (words_more (codes "of") (codes "switch" ++ 32 ∷ from_lid) (text_word (codes "of") refl (omega arith))
      ∙ ap (λ ws. codes "of" ∷ ws) (words_more (codes "switch") from_lid (text_word (codes "switch") refl (omega arith))
      ∙ ap (λ ws. codes "switch" ∷ ws) lid_words))))

  guid_named : bytes_eq d (codes "guid") ≡ false → after_word (codes "guid") (fields line) ≡ Some g
  guid_named other = ap (after_word (codes "guid")) head_fields ∙ ap (λ v. if v then Some (codes "guid") else Some g) other

table_guid_is : (t : Topology) (k : ℕ) (row : SwitchRow) → IsFabric t → slice_get t.switches k ≡ Some row → table_guid (table_head_text (lids_of t) row) ≡ Some row.guid
unfolding table_head_text lids_text switch_text
table_guid_is t k row fabric at =
    let low : row.lid.0 < 2 ^ 64 = lid_low t k row fabric at in
    let s : Spells 10 row.lid.0 (decimal row.lid.0) = decimal_spells row.lid.0 low in
    let high : IsHigh (decimal row.lid.0) = spelled_high 10 row.lid.0 (decimal row.lid.0) (omega arith) s in
    ap (read_only (hex 16)) (guid_named (hex4 (slice_index (lids_of t) 0)) (hex4 (slice_index (lids_of t) (length (lids_of t) - 1))) (decimal row.lid.0) (hex16 row.guid) row.desc
    (hex4_word (slice_index (lids_of t) 0)) (hex4_word (slice_index (lids_of t) (length (lids_of t) - 1))) (high_word (decimal row.lid.0) high s.some) (hex16_word row.guid)
    (digits_differ (decimal row.lid.0) 103 (codes "uid") s.all s.some refl))
    ∙ guid_read row.guid (guid_low t k row fabric at)

is_head : (lids : List ℕ) (row : SwitchRow) → kind_of (table_head_text lids row) ≡ TableHead
unfolding table_head_text lids_text
is_head lids row = refl

pub table_head_said : (t : Topology) (f : Form) (n : ℕ) (s : State) (k : ℕ) (row : SwitchRow) → IsFabric t → IsLong f.version → WaitsForNone s.open_block →
    slice_get t.switches k ≡ Some row →
    line_says t f n s (table_head_text (lids_of t) row) ≡ adds (TwiceBlock n) s (Table (Some (switch_id k))) (TableBlock k ∷ [])
table_head_said t f n s k row fabric long none at =
    kind_says t f n s (table_head_text (lids_of t) row) long TableHead none (is_head (lids_of t) row)
    ∙ ap (table_head t f n s) (table_guid_is t k row fabric at) ∙ ap (table_of f n s) (switch_found t k row fabric at)

-- ---- rows

entry_low : (e : Entries) (k lid : ℕ) → AreEntries e → entry e k lid < 256
entry_low e k lid are = go (index_of lid e.in_use)
  where
    go : (o : Option ℕ) → port_in_column e k o < 256
    go None = omega arith
    go (Some i) = cond_both (nat_lt k e.switches) (get_or e.ports (cell e.switches i k) 255) 255 (λ port. port < 256)
        (λ b. elim (cases_lt (cell e.switches i k) (length e.ports)) [
          | inl low ↦ All-get_or (λ port. port < 256) e.ports (cell e.switches i k) 255 low are.low_ports
          | inr past ↦ omega (arith, get_or_past e.ports (cell e.switches i k) 255 past)
        ])
        (λ b. omega arith)

port_back : (e : Entries) (k lid : ℕ) → AreEntries e → dec 3 255 (port3 (entry e k lid)) ≡ Some (entry e k lid)
port_back e k lid are =
    let low : entry e k lid < 256 = entry_low e k lid are in
    dec_spelled 3 255 (entry e k lid) (port3 (entry e k lid)) (port_spelled (entry e k lid) low) (omega (arith, length-port (entry e k lid))) (omega (arith, low))

pub table_row_said : (t : Topology) (f : Form) (n : ℕ) (s : State) (e : Entries) (k i : ℕ) → IsFabric t → IsLong f.version → s.open_block ≡ Table (Some (switch_id k)) →
    EntriesFit t e → i * 64 < length (lids_of t) →
    line_says t f n s (numbered_row t (λ lid. port3 (entry e k lid)) i)
    ≡ adds (TwiceRow n) s (Table (Some (switch_id k))) (said_of (Port k) (map (λ (lid : ℕ). (lid, entry e k lid)) (row_of (lids_of t) i)))
table_row_said t f n s e k i fabric long block fits within =
    table_says t f n s (numbered_row t (λ lid. port3 (entry e k lid)) i) long k block (row_is_row (λ lid. port3 (entry e k lid)) (row_of (lids_of t) i))
    ∙ ap (long_table_row n s k) (row_back (lids_of t) i (lids_are t fabric).ascending (lids_are t fabric).fit within (dec 3 255) (λ lid. port3 (entry e k lid)) (λ lid. entry e k lid) (λ lid. port_word (entry e k lid)) (λ lid. port_back e k lid fits.whole))
