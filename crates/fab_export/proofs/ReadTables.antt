-- The text of the tables, read as a plain dump, gives the ports of its rows.
use Rattle.std.proofs.Common.{◌≡◌, ◌≢◌, ℕ, ◌+◌, ◌-◌, ◌*◌, ◌<◌, ◌≤◌, ◌^◌, ◌⊎◌, inl, inr, Bool, true, false, ◌&&◌, List, [], ◌∷◌, ◌++◌, length, refl, sym, ◌∙◌, ap, subst, arith, Option, Some, None, Ok, codes, map, slice_get, get_or, replicate, nat_eq}
use Rattle.std.specs.Prelude.{All, filter, flat_map, fold, slice_index, is_some}
use Rattle.std.specs.List.{concat, enumerate_from}
use Rattle.std.proofs.lemmas.Bool.{ne_eqb, and_left}
use Rattle.std.proofs.lemmas.List.{append_assoc, append-nil, length-replicate, get_or-replicate}
use Rattle.std.proofs.lemmas.List.Kept.{AllPairs-from_increasing}
use Rattle.std.proofs.lemmas.List.Elements.{All-nil, All-cons, All-append, All-weaker, All-get_or}
use Rattle.fab_model.specs.declared.rows.SwitchRow.{SwitchRow}
use Rattle.fab_model.specs.Topology.{Topology, lids_of}
use Rattle.fab_model.specs.WellFormed.{IsFabric}
use Rattle.fab_model.proofs.Faultless.Facts.{slice_get_in}
use Rattle.fab_model.proofs.Lists.Members.{In, Pairs, All_from_in, in_all, in_left, from_map, from_filter, in_filter, pairs_from_AllPairs, pairs_weaker, pairs_filter, Contains_from_in}
use Rattle.fab_model.proofs.Lists.Found.{from_enumerate, in_enumerate}
use Rattle.fab_tables.specs.declared.plan.Plan.{Plan}
use Rattle.fab_tables.specs.Entries.{Entries, index_of, cell, entry, no_entries}
use Rattle.fab_tables.specs.Fit.{EntriesFit}
use Rattle.fab_tables.proofs.Joined.Ascending.{lids_ascend, lids_fit}
use Rattle.fab_tables.proofs.Rows.Cells.{index_there, port_there}
use Rattle.fab_dump.specs.declared.fault.PlanFault.TheVariants.{TwiceBlock, TwiceRow}
use Rattle.fab_dump.specs.Given.{Given, was_given, plan_given, tables_with}
use Rattle.fab_dump.specs.Given.Given.{TableBlock}
use Rattle.fab_dump.specs.Lines.{State}
use Rattle.fab_dump.specs.Reading.{read_lines, read_first, dump_form, nothing_read}
use Rattle.fab_dump.specs.Writing.{hex4, hex16, port3, table_head_text, table_block, plan_lines}
use Rattle.fab_dump.proofs.Reading.Marks.{not_of}
use Rattle.fab_dump.proofs.Round.Blocks.{tables_spoken, HasTables}
use Rattle.fab_dump.proofs.Round.Fresh.{Within, further, Apart, not_given_more, new_table, new_port}
use Rattle.fab_dump.proofs.Round.Leads.{Leads, leads_none, leads_line, leads_then, adds_new, Went, went_rows, each_row}
use Rattle.fab_dump.proofs.Round.Lines.{IsLine, lines_back, plan_lines_are}
use Rattle.fab_dump.proofs.Round.Said.{port_of}
use Rattle.fab_dump.proofs.Round.WrittenNumbers.{hex4_high, hex16_high, port_high}
use Rattle.std.specs.Prelude.{nat_le}
use Rattle.std.specs.List.{list_all}
use Rattle.std.proofs.lemmas.Bool.{leb-true}
use Rattle.std.proofs.lemmas.Option.{slice_get_within, slice_get-get_or}
use Rattle.fab_model.proofs.Lists.Members.{in_map}
use Rattle.fab_model.proofs.Lists.Found.{slice_get_some}
use Rattle.fab_tables.specs.Entries.{port_in_column}
use Rattle.fab_dump.proofs.Round.Cells.{Place, place_of, column_written, lid_place}
use Rattle.fab_dump.proofs.Round.Folds.{column_write, port_write, tables_fold, plan_fold_none}
use Rattle.fab_dump.proofs.Round.Writes.{Has, WritesTo, writes_of, IsRight, all_written, all_flat_map}
use Rattle.fab_export.specs.Laws.{TablesAreRead}
use Rattle.fab_export.proofs.Cells.{length-by_lid}
use Rattle.fab_export.proofs.PolicyLevels.{in_flat_map, from_flat_map}
use Rattle.fab_export.proofs.ListTests.{all_pass, chosen_if, other_if}
use Rattle.fab_export.specs.Reached.{is_reached}
use Rattle.fab_export.specs.TablesText.{TableRow, table_row, table_rows, table_row_text, exported_block, table_lines}
use Rattle.fab_export.specs.SaidPlan.{entries_said, port_said}
use Rattle.fab_export.proofs.ReadLines.{opened, head_said, row_said}
use Rattle.fab_export.proofs.SaidEntries.{said_there, entry_small}

abbrev made : ℕ → List ℕ → List ℕ → Entries
made n lids ports = record { switches = n; in_use = lids; ports = ports }

abbrev made_plan : Entries → Plan
made_plan x = record { tables = x; lanes = None }

has_of_in : {X : Type 0} (x : X) (xs : List X) → In x xs → Has x xs
has_of_in x [] within = absurd within
has_of_in x (y ∷ ys) (inl same) = inl same
has_of_in x (y ∷ ys) (inr within) = inr (has_of_in x ys within)

other_lid : (k a b : ℕ) → a ≢ b → (nat_eq k k && (nat_eq a b && true)) ≡ false
other_lid k a b other = go (nat_eq k k) (and_left (nat_eq a b) true (ne_eqb a b other))
  where
    go : (x : Bool) → (nat_eq a b && true) ≡ false → (x && (nat_eq a b && true)) ≡ false
    go true e = e
    go false e = refl

in_use_there : (lids : List ℕ) (lid : ℕ) → In lid lids → is_some (index_of lid lids) ≡ true
in_use_there lids lid within = go (index_of lid lids) refl
  where
    go : (o : Option ℕ) → index_of lid lids ≡ o → is_some o ≡ true
    go None is = let has = Contains_from_in lids lid within in absurd (index_there lid lids has.0 has.1 has.2 is)
    go (Some i) is = refl

module _ (t : Topology) (e : Entries) (fabric : IsFabric t) (fit : EntriesFit t e) where
  -- what a switch's block says
  abbrev block_said : ℕ × SwitchRow → List Given
  block_said s = TableBlock s.0 ∷ map (port_of e s.0) (filter (is_reached t e s.0) (lids_of t))

  different : Pairs (λ (m n : ℕ). m ≢ n) (lids_of t)
  different = pairs_weaker (λ (m n : ℕ). m < n) (λ (m n : ℕ). m ≢ n) (lids_of t) (λ m n in_m in_n less same. omega (arith, less, same))
      (pairs_from_AllPairs (λ (m n : ℕ). m < n) (lids_of t) (AllPairs-from_increasing (lids_of t) (lids_ascend t fabric)))

  module _ (k : ℕ) where
    one_row : (given : List Given) (lid : ℕ) → In lid (lids_of t) → was_given given (port_of e k lid) ≡ false →
        Leads t dump_form (opened k given) (table_row_text (table_row t e k lid) ∷ []) (opened k (given ++ port_of e k lid ∷ []))
    one_row given lid within new = leads_line t dump_form (opened k given) (opened k (given ++ port_of e k lid ∷ [])) (table_row_text (table_row t e k lid))
        (λ n. row_said t k given n (table_row t e k lid) (in_all (λ (x : ℕ). x < 2 ^ 16) (lids_of t) (lids_fit t fabric) lid within) (entry_small t e k (index_of lid e.in_use) fit.whole) (in_use_there (lids_of t) lid within)
        ∙ adds_new (TwiceRow n) (opened k given) (opened k []).open_block (port_of e k lid ∷ []) (All-cons (λ g. was_given given g ≡ false) (port_of e k lid) [] new (All-nil (λ g. was_given given g ≡ false))))

    fill : (rest : List ℕ) (given : List Given) → Pairs (λ (m n : ℕ). m ≢ n) rest → ((x : ℕ) → In x rest → In x (lids_of t)) → ((x : ℕ) → In x rest → was_given given (port_of e k x) ≡ false) →
        Leads t dump_form (opened k given) (map table_row_text (map (table_row t e k) rest)) (opened k (given ++ map (port_of e k) rest))
    fill [] given pairs lids new = subst (λ (g : List Given). Leads t dump_form (opened k given) [] (opened k g)) (sym (append-nil given)) (leads_none t dump_form (opened k given))
    fill (x ∷ rest) given pairs lids new =
        subst (λ (g : List Given). Leads t dump_form (opened k given) (map table_row_text (map (table_row t e k) (x ∷ rest))) (opened k g)) (append_assoc given (port_of e k x ∷ []) (map (port_of e k) rest))
        (leads_then t dump_form (opened k given) (opened k (given ++ port_of e k x ∷ [])) (opened k ((given ++ port_of e k x ∷ []) ++ map (port_of e k) rest)) (table_row_text (table_row t e k x) ∷ []) (map table_row_text (map (table_row t e k) rest))
        (one_row given x (lids x (inl refl)) (new x (inl refl)))
        (fill rest (given ++ port_of e k x ∷ []) pairs.1 (λ y w. lids y (inr w)) (λ y w. not_of given (port_of e k x) (port_of e k y) (other_lid k x y (pairs.0 y w)) ∙ new y (inr w))))

    module _ (row : SwitchRow) (s : State) (at : slice_get t.switches k ≡ Some row) (so_far : HasTables k s) where
      head_leads : Leads t dump_form s (table_head_text (lids_of t) row ∷ []) (opened k (s.given ++ TableBlock k ∷ []))
      head_leads = leads_line t dump_form s (opened k (s.given ++ TableBlock k ∷ [])) (table_head_text (lids_of t) row)
          (λ n. head_said t k row fabric at n s
          ∙ adds_new (TwiceBlock n) s (opened k []).open_block (TableBlock k ∷ []) (All-cons (λ g. was_given s.given g ≡ false) (TableBlock k) [] (new_table (tables_spoken k) s.given so_far.within k (omega arith)) (All-nil (λ g. was_given s.given g ≡ false))))

      rows_lead : Leads t dump_form (opened k (s.given ++ TableBlock k ∷ [])) (map table_row_text (table_rows t e k)) (opened k ((s.given ++ TableBlock k ∷ []) ++ map (port_of e k) (filter (is_reached t e k) (lids_of t))))
      rows_lead = fill (filter (is_reached t e k) (lids_of t)) (s.given ++ TableBlock k ∷ []) (pairs_filter (λ (m n : ℕ). m ≢ n) (is_reached t e k) (lids_of t) different) (λ x w. (from_filter (is_reached t e k) (lids_of t) x w).0)
          (λ lid w. not_given_more s.given (TableBlock k ∷ []) (port_of e k lid) (new_port (tables_spoken k) s.given so_far.within k lid (entry e k lid) (omega arith))
          (All-cons (Apart (port_of e k lid)) (TableBlock k) [] refl (All-nil (Apart (port_of e k lid)))))

      said_within : All (Within (tables_spoken (k + 1))) (s.given ++ block_said (k, row))
      said_within = All-append (Within (tables_spoken (k + 1))) s.given (block_said (k, row))
          (further (tables_spoken k) (tables_spoken (k + 1)) s.given (record { tables = omega arith; levels = omega arith; maps = omega arith; certificates = omega arith; numbers = omega arith }) so_far.within)
          (All-cons (Within (tables_spoken (k + 1))) (TableBlock k) (map (port_of e k) (filter (is_reached t e k) (lids_of t))) (omega arith)
          (All_from_in (Within (tables_spoken (k + 1))) (map (port_of e k) (filter (is_reached t e k) (lids_of t)))
          (λ g w. let from = from_map (port_of e k) (filter (is_reached t e k) (lids_of t)) g w in low_port from.0 g from.2)))
        where
          low_port : (lid : ℕ) (g : Given) → port_of e k lid ≡ g → Within (tables_spoken (k + 1)) g
          low_port lid g same = subst (Within (tables_spoken (k + 1))) same (low k)
            where
              low : (n : ℕ) → n < n + 1
              low n = omega arith

      block_went : Went t dump_form s (exported_block t e (k, row)) (block_said (k, row)) (HasTables (k + 1))
      block_went = record {
        now = opened k (s.given ++ block_said (k, row));
        leads = subst (λ (g : List Given). Leads t dump_form s (exported_block t e (k, row)) (opened k g)) (append_assoc s.given (TableBlock k ∷ []) (map (port_of e k) (filter (is_reached t e k) (lids_of t))))
            (leads_then t dump_form s (opened k (s.given ++ TableBlock k ∷ [])) (opened k ((s.given ++ TableBlock k ∷ []) ++ map (port_of e k) (filter (is_reached t e k) (lids_of t))))
            (table_head_text (lids_of t) row ∷ []) (map table_row_text (table_rows t e k)) head_leads rows_lead);
        given = refl;
        holds = record { within = said_within; waits = tt };
      }

  abbrev all_said : List Given
  all_said = flat_map block_said (enumerate_from 0 t.switches)

  all_went : Went t dump_form nothing_read (flat_map (exported_block t e) (enumerate_from 0 t.switches)) all_said (HasTables (0 + length t.switches))
  all_went = went_rows t dump_form (exported_block t e) block_said (λ k row. slice_get t.switches k ≡ Some row) HasTables (λ k row now at so_far. block_went k row now at so_far) t.switches 0 nothing_read (each_row t.switches)
      (record { within = All-nil (Within (tables_spoken 0)); waits = tt })

  -- what is read of the lines
  read_all : read_first t (table_lines t e) ≡ Ok (plan_given t None all_said)
  read_all =
      let blocks : List (List ℕ) = flat_map (exported_block t e) (enumerate_from 0 t.switches) in
      let w : Went t dump_form nothing_read blocks all_said (HasTables (0 + length t.switches)) = all_went in
      ap (read_lines t dump_form 2 nothing_read) (sym (append-nil blocks)) ∙ w.leads 2 [] ∙ ap (λ (g : List Given). Ok (plan_given t None g)) w.given

-- ---- the lines of the text

has_line_end : (bytes : List ℕ) → All (λ byte. 32 ≤ byte) bytes → (slice_index bytes (length bytes - 1) ≡ 13 → ⊥)
has_line_end [] all is = omega (arith, is)
has_line_end (byte ∷ bytes) all is = omega (arith, is, All-get_or (λ b. 32 ≤ b) (byte ∷ bytes) (length (byte ∷ bytes) - 1) 0 (omega arith) all)

plain_line : (bytes : List ℕ) → All (λ byte. 32 ≤ byte) bytes → IsLine bytes
plain_line bytes all = record { one_line = All-weaker (λ byte. 32 ≤ byte) (λ byte. byte ≢ 10) (λ byte low is. omega (arith, low, is)) bytes all; end = has_line_end bytes all }

plain_test : (bytes : List ℕ) → list_all (λ byte. nat_le 32 byte) bytes ≡ true → All (λ byte. 32 ≤ byte) bytes
plain_test bytes all = All_from_in (λ byte. 32 ≤ byte) bytes (λ byte within. leb-true 32 byte (all_pass (λ b. nat_le 32 b) bytes all byte within))

high_plain : (bytes : List ℕ) → All (λ byte. 48 ≤ byte) bytes → All (λ byte. 32 ≤ byte) bytes
high_plain bytes all = All-weaker (λ byte. 48 ≤ byte) (λ byte. 32 ≤ byte) (λ byte low. omega (arith, low)) bytes all

row_line : (row : TableRow) → IsLine (table_row_text row)
unfolding table_row_text
row_line row = plain_line (table_row_text row)
    (All-append (λ byte. 32 ≤ byte) (hex4 row.lid) (concat (codes " " ∷ port3 row.port ∷ codes " : portguid " ∷ hex16 row.guid ∷ [])) (high_plain (hex4 row.lid) (hex4_high row.lid))
    (All-append (λ byte. 32 ≤ byte) (codes " ") (concat (port3 row.port ∷ codes " : portguid " ∷ hex16 row.guid ∷ [])) (plain_test (codes " ") refl)
    (All-append (λ byte. 32 ≤ byte) (port3 row.port) (concat (codes " : portguid " ∷ hex16 row.guid ∷ [])) (high_plain (port3 row.port) (port_high row.port))
    (All-append (λ byte. 32 ≤ byte) (codes " : portguid ") (concat (hex16 row.guid ∷ [])) (plain_test (codes " : portguid ") refl)
    (All-append (λ byte. 32 ≤ byte) (hex16 row.guid) [] (high_plain (hex16 row.guid) (hex16_high row.guid)) (All-nil (λ byte. 32 ≤ byte)))))))

module _ (t : Topology) (e : Entries) (fabric : IsFabric t) (fit : EntriesFit t e) where
  abbrev dumped : Plan
  dumped = record { tables = e; lanes = None }

  head_line : (x : ℕ × SwitchRow) → In x (enumerate_from 0 t.switches) → IsLine (table_head_text (lids_of t) x.1)
  head_line x within = in_all IsLine (plan_lines t dumped) (plan_lines_are t dumped fabric (record { tables = fit; lanes = tt })) (table_head_text (lids_of t) x.1)
      (inr (inr (in_left (flat_map (table_block t e) (enumerate_from 0 t.switches) ++ []) (codes "end plan" ∷ []) (table_head_text (lids_of t) x.1)
      (in_left (flat_map (table_block t e) (enumerate_from 0 t.switches)) [] (table_head_text (lids_of t) x.1)
      (in_flat_map (table_block t e) (enumerate_from 0 t.switches) x (table_head_text (lids_of t) x.1) within (inl refl))))))

  all_lines : All IsLine (table_lines t e)
  all_lines = All-cons IsLine (codes "# fabroute tables") (flat_map (exported_block t e) (enumerate_from 0 t.switches)) (plain_line (codes "# fabroute tables") (plain_test (codes "# fabroute tables") refl))
      (all_flat_map IsLine (exported_block t e) (enumerate_from 0 t.switches) (All_from_in (λ x. All IsLine (exported_block t e x)) (enumerate_from 0 t.switches) block))
    where
      block : (x : ℕ × SwitchRow) → In x (enumerate_from 0 t.switches) → All IsLine (exported_block t e x)
      block x within = All-cons IsLine (table_head_text (lids_of t) x.1) (map table_row_text (table_rows t e x.0)) (head_line x within)
          (All_from_in IsLine (map table_row_text (table_rows t e x.0)) (λ line w. let from = from_map table_row_text (table_rows t e x.0) line w in subst IsLine from.2 (row_line from.0)))

  -- ---- the entries that the statements make

  abbrev f : Entries
  f = entries_said t e

  abbrev width : ℕ
  width = length (lids_of t)

  same_width : length e.in_use ≡ length (lids_of t)
  same_width = ap length fit.in_use

  index_same : (lid i : ℕ) → index_of lid (lids_of t) ≡ Some i → index_of lid e.in_use ≡ Some i
  index_same lid i is = ap (index_of lid) fit.in_use ∙ is

  -- what stands in the cell of a switch and a LID
  cell_said : (k lid i : ℕ) → index_of lid (lids_of t) ≡ Some i → k < e.switches → get_or (entries_said t e).ports (cell (length t.switches) i k) 255 ≡ port_said t e k lid
  cell_said k lid i is low =
      ap (λ n. get_or (entries_said t e).ports (cell n i k) 255) (sym fit.switches)
      ∙ sym (port_there (entries_said t e) k i low)
      ∙ sym (ap (port_in_column (entries_said t e) k) (index_same lid i is))
      ∙ said_there t e k lid i (index_same lid i is) low

  port_right : (k lid : ℕ) → k < e.switches → is_reached t e k lid ≡ true → All (IsRight (entries_said t e).ports 255) (port_write (length t.switches) (lids_of t) (port_of e k lid))
  port_right k lid low is = go (index_of lid (lids_of t)) refl
    where
      go : (o : Option ℕ) → index_of lid (lids_of t) ≡ o → All (IsRight (entries_said t e).ports 255) (column_write (length t.switches) k (entry e k lid) o)
      go None at = All-nil (IsRight (entries_said t e).ports 255)
      go (Some i) at = All-cons (IsRight (entries_said t e).ports 255) (cell (length t.switches) i k, entry e k lid) []
          (sym (cell_said k lid i at low ∙ chosen_if (is_reached t e k lid) (entry e k lid) 255 is)) (All-nil (IsRight (entries_said t e).ports 255))

  low_switch : (x : ℕ × SwitchRow) → In x (enumerate_from 0 t.switches) → x.0 < e.switches
  low_switch x within =
      let at = from_enumerate 0 t.switches x within in
      let low : at.0 < length t.switches = slice_get_within t.switches at.0 x.1 at.2 in
      omega (arith, at.1, low, fit.switches)

  abbrev statements : List Given
  statements = all_said t e fabric fit

  all_right : All (IsRight (entries_said t e).ports 255) (flat_map (port_write (length t.switches) (lids_of t)) (all_said t e fabric fit))
  all_right = all_flat_map (IsRight (entries_said t e).ports 255) (port_write (length t.switches) (lids_of t)) (all_said t e fabric fit)
      (All_from_in (λ g. All (IsRight (entries_said t e).ports 255) (port_write (length t.switches) (lids_of t) g)) (all_said t e fabric fit) each)
    where
      of_block : (x : ℕ × SwitchRow) → In x (enumerate_from 0 t.switches) → (g : Given) → In g (block_said t e fabric fit x) → All (IsRight (entries_said t e).ports 255) (port_write (length t.switches) (lids_of t) g)
      of_block x in_x g (inl same) = subst (λ g. All (IsRight (entries_said t e).ports 255) (port_write (length t.switches) (lids_of t) g)) same (All-nil (IsRight (entries_said t e).ports 255))
      of_block x in_x g (inr within) =
          let from = from_map (port_of e x.0) (filter (is_reached t e x.0) (lids_of t)) g within in
          subst (λ g. All (IsRight (entries_said t e).ports 255) (port_write (length t.switches) (lids_of t) g)) from.2
          (port_right x.0 from.0 (low_switch x in_x) (from_filter (is_reached t e x.0) (lids_of t) from.0 from.1).1)

      each : (g : Given) → In g (all_said t e fabric fit) → All (IsRight (entries_said t e).ports 255) (port_write (length t.switches) (lids_of t) g)
      each g within = let from = from_flat_map (block_said t e fabric fit) (enumerate_from 0 t.switches) g within in of_block from.0 from.1 g from.2

  size : length (entries_said t e).ports ≡ length (lids_of t) * length t.switches
  size = length-by_lid e.switches (port_said t e) e.in_use ∙ ap (λ n. n * e.switches) same_width ∙ ap (λ n. length (lids_of t) * n) fit.switches

  -- each cell was written, or has no port
  each_cell : (i : ℕ) → i < length (entries_said t e).ports → (get_or (replicate (length (lids_of t) * length t.switches) 255) i 255 ≡ get_or (entries_said t e).ports i 255) ⊎ WritesTo i (flat_map (port_write (length t.switches) (lids_of t)) (all_said t e fabric fit))
  each_cell i low = by_reach (is_reached t e at.column lid) refl
    where
      at : Place (length t.switches) (length (lids_of t)) i
      at = place_of (length t.switches) (length (lids_of t)) i (omega (arith, low, size))

      lid : ℕ
      lid = get_or (lids_of t) at.row 0

      row : (row : SwitchRow) × (slice_get t.switches at.column ≡ Some row)
      row = slice_get_some t.switches at.column at.column_low

      by_reach : (b : Bool) → is_reached t e at.column lid ≡ b → (get_or (replicate (length (lids_of t) * length t.switches) 255) i 255 ≡ get_or (entries_said t e).ports i 255) ⊎ WritesTo i (flat_map (port_write (length t.switches) (lids_of t)) (all_said t e fabric fit))
      by_reach true is = inr (writes_of (port_write (length t.switches) (lids_of t)) (all_said t e fabric fit) (port_of e at.column lid) i there (subst (λ (n : ℕ). WritesTo n (port_write (length t.switches) (lids_of t) (port_of e at.column lid))) at.at written))
        where
          in_row : In lid (lids_of t)
          in_row = slice_get_in (lids_of t) at.row lid (slice_get-get_or (lids_of t) at.row 0 at.row_low)

          there : Has (port_of e at.column lid) (all_said t e fabric fit)
          there = has_of_in (port_of e at.column lid) (all_said t e fabric fit) (in_flat_map (block_said t e fabric fit) (enumerate_from 0 t.switches) (0 + at.column, row.0) (port_of e at.column lid) (in_enumerate 0 t.switches at.column row.0 row.1)
              (inr (in_ports (0 + at.column) (omega arith))))
            where
              in_ports : (n : ℕ) → n ≡ at.column → In (port_of e at.column lid) (map (port_of e n) (filter (is_reached t e n) (lids_of t)))
              in_ports n same = subst (λ m. In (port_of e at.column lid) (map (port_of e m) (filter (is_reached t e m) (lids_of t)))) (sym same) (in_map (port_of e at.column) (filter (is_reached t e at.column) (lids_of t)) lid (in_filter (is_reached t e at.column) (lids_of t) lid in_row is))

          written : WritesTo (cell (length t.switches) at.row at.column) (port_write (length t.switches) (lids_of t) (port_of e at.column lid))
          written = column_written (lids_of t) at.row at.row_low (length t.switches) at.column (entry e at.column lid) (lids_ascend t fabric)
      by_reach false is = inl (get_or-replicate (length (lids_of t) * length t.switches) i 255 255 (omega (arith, low, size)) ∙ sym none)
        where
          none : get_or (entries_said t e).ports i 255 ≡ 255
          none = ap (λ n. get_or (entries_said t e).ports n 255) (sym at.at)
              ∙ cell_said at.column lid at.row (lid_place (lids_of t) at.row at.row_low (lids_ascend t fabric)) (omega (arith, at.column_low, fit.switches))
              ∙ other_if (is_reached t e at.column lid) (entry e at.column lid) 255 is

  tables_made : fold tables_with (no_entries (length t.switches) (lids_of t)) (all_said t e fabric fit) ≡ entries_said t e
  tables_made =
      tables_fold (no_entries (length t.switches) (lids_of t)) (all_said t e fabric fit)
      ∙ ap (λ (ports : List ℕ). made (length t.switches) (lids_of t) ports)
      (all_written (entries_said t e).ports 255 (replicate (length (lids_of t) * length t.switches) 255) (flat_map (port_write (length t.switches) (lids_of t)) (all_said t e fabric fit))
      (length-replicate (length (lids_of t) * length t.switches) 255 ∙ sym size) all_right each_cell)
      ∙ ap (λ (n : ℕ). made n (lids_of t) (entries_said t e).ports) (sym fit.switches)
      ∙ ap (λ (lids : List ℕ). made e.switches lids (entries_said t e).ports) (sym fit.in_use)

pub tables_are_read : TablesAreRead
tables_are_read t e fabric fit =
    ap (read_first t) (lines_back (table_lines t e) (all_lines t e fabric fit))
    ∙ read_all t e fabric fit
    ∙ ap (λ (p : Plan). Ok p) (plan_fold_none (no_entries (length t.switches) (lids_of t)) (all_said t e fabric fit) ∙ ap (λ (x : Entries). made_plan x) (tables_made t e fabric fit))
