-- Table and levels blocks that are written, and read.
use Rattle.std.proofs.Common.{◌≡◌, ◌≢◌, ◌<◌, ◌*◌, ℕ, ◌+◌, Bool, true, false, List, [], ◌∷◌, ◌++◌, length, map, get_or, nat_eq, refl, sym, ◌∙◌, ap, subst, arith, Some}
use Rattle.std.specs.Prelude.{All, ◌&&◌, flat_map, slice_get, is_some, if◌then◌else◌}
use Rattle.std.specs.List.{enumerate_from}
use Rattle.std.proofs.lemmas.Bool.{and_left, ne_eqb}
use Rattle.std.proofs.lemmas.List.{append_assoc, append-nil}
use Rattle.std.proofs.lemmas.List.Elements.{All-nil, All-cons, All-append, All-map}
use Rattle.fab_model.specs.declared.rows.SwitchRow.{SwitchRow}
use Rattle.fab_model.specs.Topology.{Topology, lids_of, switch_id, is_source}
use Rattle.fab_model.specs.WellFormed.{IsFabric}
use Rattle.fab_tables.specs.Entries.{Entries, entry}
use Rattle.fab_tables.specs.LaneTables.{LaneTables, level}
use Rattle.fab_tables.specs.Fit.{EntriesFit, LanesFit}
use Rattle.fab_dump.specs.declared.fault.PlanFault.TheVariants.{TwiceBlock, TwiceRow}
use Rattle.fab_dump.specs.declared.form.Block.{Block}
use Rattle.fab_dump.specs.declared.form.Block.TheVariants.{Table, Levels}
use Rattle.fab_dump.specs.Given.{Given, was_given, said_of}
use Rattle.fab_dump.specs.Given.Given.{TableBlock, Port, LevelBlock, Level}
use Rattle.fab_dump.specs.Lines.{Form, State, adds, levels_head, line_says}
use Rattle.fab_dump.specs.Writing.{table_head_text, table_block, guid_head_text, levels_block, block_rows, numbered_row, port3, level2, row_of}
use Rattle.fab_dump.proofs.Round.LinesPlaces.{IsLong, WaitsForNone}
use Rattle.fab_dump.proofs.Round.LinesTables.{table_head_said, table_row_said}
use Rattle.fab_dump.proofs.Round.LinesLanes.{levels_head_said, level_row_said}
use Rattle.fab_dump.proofs.Round.Said.{table_said, level_of, levels_block_said, all_tables, all_levels}
use Rattle.fab_dump.proofs.Round.Fresh.{Spoken, Within, IsFurther, further, Apart, not_given_more, new_table, new_port, new_levels, new_level}
use Rattle.fab_dump.proofs.Round.Leads.{Leads, leads_none, leads_line, leads_then, adds_new, Went, went_rows, each_row}
use Rattle.fab_dump.proofs.Round.Rows.{block_leads}

other_lid : (k a b : ℕ) → a ≢ b → (nat_eq k k && (nat_eq a b && true)) ≡ false
other_lid k a b other = go (nat_eq k k) (and_left (nat_eq a b) true (ne_eqb a b other))
  where
    go : (x : Bool) → (nat_eq a b && true) ≡ false → (x && (nat_eq a b && true)) ≡ false
    go true e = e
    go false e = refl

-- how far it was spoken of tables and levels
abbrev pub tables_spoken : ℕ → Spoken
tables_spoken k = record { tables = k; levels = 0; maps = 0; certificates = 0; numbers = 0 }

abbrev pub levels_spoken : ℕ → ℕ → Spoken
levels_spoken n k = record { tables = n; levels = k; maps = 0; certificates = 0; numbers = 0 }

-- so far the tables of the first switches were read
pub record HasTables (k : ℕ) (s : State) : Type 0 where
  pub within : All (Within (tables_spoken k)) s.given
  pub waits : WaitsForNone s.open_block

pub record HasLevels (n k : ℕ) (s : State) : Type 0 where
  pub within : All (Within (levels_spoken n k)) s.given
  pub waits : WaitsForNone s.open_block

-- a block that opens with a head and has rows of a value of each LID
module _ {A : Type 0} (t : Topology) (f : Form) (fabric : IsFabric t) (block : Block) (head : Given) (say : ℕ → A → Given) (value : ℕ → A) (write : A → List ℕ) (opening : List ℕ) (s : State)
    (opens : (n : ℕ) → line_says t f n s opening ≡ adds (TwiceBlock n) s block (head ∷ []))
    (says : (n i : ℕ) (now : State) → now.open_block ≡ block → i * 64 < length (lids_of t) →
    line_says t f n now (numbered_row t (λ lid. write (value lid)) i) ≡ adds (TwiceRow n) now block (said_of say (map (λ (lid : ℕ). (lid, value lid)) (row_of (lids_of t) i))))
    (far now : Spoken) (within : All (Within far) s.given) (on : IsFurther far now) (of_head : Within now head) (of_row : (lid : ℕ) → Within now (say lid (value lid)))
    (head_new : was_given s.given head ≡ false) (row_new : (lid : ℕ) → was_given s.given (say lid (value lid)) ≡ false) (behind : (lid : ℕ) → Apart (say lid (value lid)) head)
    (apart : (a b : ℕ) → a ≢ b → Apart (say b (value b)) (say a (value a))) where
  abbrev of : ℕ → Given
  of lid = say lid (value lid)

  abbrev opened : State
  opened = record { open_block = block; given = s.given ++ head ∷ [] }

  same_rows : (some : List ℕ) → said_of say (map (λ (lid : ℕ). (lid, value lid)) some) ≡ map of some
  same_rows [] = refl
  same_rows (lid ∷ some) = ap (λ gs. of lid ∷ gs) (same_rows some)

  rows_lead : Leads t f opened (block_rows t (λ lid. write (value lid))) (record { open_block = block; given = opened.given ++ map of (lids_of t) })
  rows_lead = block_leads t f fabric block of (λ lid. write (value lid)) opened.given
      (λ n i now opened_at low. says n i now opened_at low ∙ ap (adds (TwiceRow n) now block) (same_rows (row_of (lids_of t) i)))
      (λ lid. not_given_more s.given (head ∷ []) (of lid) (row_new lid) (All-cons (Apart (of lid)) head [] (behind lid) (All-nil (Apart (of lid))))) apart

  block_went : (Q : State → Type 0) → (All (Within now) (s.given ++ head ∷ map of (lids_of t)) → Q (record { open_block = block; given = s.given ++ head ∷ map of (lids_of t) })) →
      Went t f s (opening ∷ block_rows t (λ lid. write (value lid))) (head ∷ map of (lids_of t)) Q
  block_went Q holds = record {
    now = record { open_block = block; given = s.given ++ head ∷ map of (lids_of t) };
    leads = subst (λ (g : List Given). Leads t f s (opening ∷ block_rows t (λ lid. write (value lid))) (record { open_block = block; given = g })) (append_assoc s.given (head ∷ []) (map of (lids_of t)))
        (leads_then t f s opened (record { open_block = block; given = opened.given ++ map of (lids_of t) }) (opening ∷ []) (block_rows t (λ lid. write (value lid)))
        (leads_line t f s opened opening (λ n. opens n ∙ adds_new (TwiceBlock n) s block (head ∷ []) (All-cons (λ g. was_given s.given g ≡ false) head [] head_new (All-nil (λ g. was_given s.given g ≡ false))))) rows_lead);
    given = refl;
    holds = holds (All-append (Within now) s.given (head ∷ map of (lids_of t)) (further far now s.given on within) (All-cons (Within now) head (map of (lids_of t)) of_head (All-map (Within now) of (lids_of t) (λ i d low. of_row (get_or (lids_of t) i d)))));
  }

module _ (t : Topology) (f : Form) (fabric : IsFabric t) (long : IsLong f.version) where
  table_went : (e : Entries) → EntriesFit t e → (k : ℕ) (row : SwitchRow) (s : State) → slice_get t.switches k ≡ Some row → HasTables k s → Went t f s (table_block t e (k, row)) (table_said t e (k, row)) (HasTables (k + 1))
  table_went e fit k row s at so_far =
      block_went t f fabric (Table (Some (switch_id k))) (TableBlock k) (Port k) (λ lid. entry e k lid) port3 (table_head_text (lids_of t) row) s (λ n. table_head_said t f n s k row fabric long so_far.waits at)
      (λ n i now opened low. table_row_said t f n now e k i fabric long opened fit low) (tables_spoken k) (tables_spoken (k + 1)) so_far.within
      (record { tables = omega arith; levels = omega arith; maps = omega arith; certificates = omega arith; numbers = omega arith }) (omega arith) (λ lid. omega arith)
      (new_table (tables_spoken k) s.given so_far.within k (omega arith)) (λ lid. new_port (tables_spoken k) s.given so_far.within k lid (entry e k lid) (omega arith)) (λ lid. refl) (λ a b other. other_lid k a b other)
      (HasTables (k + 1)) (λ within. record { within = within; waits = tt })

  pub tables_went : (e : Entries) (s : State) → EntriesFit t e → HasTables 0 s → Went t f s (flat_map (table_block t e) (enumerate_from 0 t.switches)) (all_tables t e) (HasTables (0 + length t.switches))
  tables_went e s fit h = went_rows t f (table_block t e) (table_said t e) (λ k row. slice_get t.switches k ≡ Some row) HasTables (λ k row now at so_far. table_went e fit k row now at so_far) t.switches 0 s (each_row t.switches) h

  module _ (some : is_some f.count ≡ true) (l : LaneTables) (fit : LanesFit t l) (m k : ℕ) (row : SwitchRow) (s : State) (at : slice_get t.switches k ≡ Some row) (so_far : HasLevels m k s) where
    on : IsFurther (levels_spoken m k) (levels_spoken m (k + 1))
    on = record { tables = omega arith; levels = omega arith; maps = omega arith; certificates = omega arith; numbers = omega arith }

    levels_went_at : (source : Bool) → is_source t k ≡ source → Went t f s (if source then guid_head_text levels_head row.guid ∷ block_rows t (λ lid. level2 (level l k lid)) else [])
        (if source then LevelBlock k ∷ map (level_of l k) (lids_of t) else []) (HasLevels m (k + 1))
    levels_went_at true source =
        block_went t f fabric (Levels (switch_id k)) (LevelBlock k) (Level k) (λ lid. level l k lid) level2 (guid_head_text levels_head row.guid) s (λ n. levels_head_said t f n s k row fabric long so_far.waits some at source)
        (λ n i now opened low. level_row_said t f n now l k i fabric long opened fit low) (levels_spoken m k) (levels_spoken m (k + 1)) so_far.within on (omega arith) (λ lid. omega arith)
        (new_levels (levels_spoken m k) s.given so_far.within k (omega arith)) (λ lid. new_level (levels_spoken m k) s.given so_far.within k lid (level l k lid) (omega arith)) (λ lid. refl) (λ a b other. other_lid k a b other)
        (HasLevels m (k + 1)) (λ within. record { within = within; waits = tt })
    levels_went_at false e = record {
      now = s;
      leads = leads_none t f s;
      given = sym (append-nil s.given);
      holds = record { within = further (levels_spoken m k) (levels_spoken m (k + 1)) s.given on so_far.within; waits = so_far.waits };
    }

    levels_block_went : Went t f s (levels_block t l (k, row)) (levels_block_said t l (k, row)) (HasLevels m (k + 1))
    levels_block_went = levels_went_at (is_source t k) refl

  pub levels_went : is_some f.count ≡ true → (l : LaneTables) (m : ℕ) (s : State) → LanesFit t l → HasLevels m 0 s → Went t f s (flat_map (levels_block t l) (enumerate_from 0 t.switches)) (all_levels t l) (HasLevels m (0 + length t.switches))
  levels_went some l m s fit h = went_rows t f (levels_block t l) (levels_block_said t l) (λ k row. slice_get t.switches k ≡ Some row) (HasLevels m) (λ k row now at so_far. levels_block_went some l fit m k row now at so_far) t.switches 0 s (each_row t.switches) h
