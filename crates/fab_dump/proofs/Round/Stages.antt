-- The parts of what a plan's text says: tables, levels, maps, and the certificate.
use Rattle.std.proofs.Common.{◌≡◌, ℕ, List, [], ◌∷◌, ◌++◌, map, refl, ◌∙◌, ap}
use Rattle.std.specs.Prelude.{All, ◌==◌, filter, flat_map}
use Rattle.std.specs.List.{enumerate_from, range_with_len}
use Rattle.std.proofs.lemmas.Bool.{cond_both}
use Rattle.std.proofs.lemmas.List.{append-nil}
use Rattle.std.proofs.lemmas.List.Concat.{flat_map-append}
use Rattle.std.proofs.lemmas.List.Elements.{All-nil, All-cons, All-map, All-weaker}
use Rattle.fab_model.specs.declared.rows.SwitchRow.{SwitchRow}
use Rattle.fab_model.specs.declared.rows.ChannelRow.{ChannelRow}
use Rattle.fab_model.specs.Topology.{Topology, lids_of, is_source}
use Rattle.fab_tables.specs.Entries.{Entries}
use Rattle.fab_tables.specs.LaneTables.{LaneTables, number}
use Rattle.fab_dump.specs.Given.{Given}
use Rattle.fab_dump.specs.Given.Given.{TableBlock, Port, LevelBlock, Level, MapBlock, Map, PairMap, Certificate, Number}
use Rattle.fab_dump.specs.Writing.{general_map, is_of_switch}
use Rattle.fab_dump.proofs.Round.Writes.{all_parts, nothing_of}
use Rattle.fab_dump.proofs.Round.Said.{port_of, table_said, level_of, levels_block_said, map_block_said, number_of, numbers_said, all_tables, all_levels, all_maps, all_numbers, lanes_said}

-- the part that a statement is of
abbrev pub stage : Given → ℕ
stage (TableBlock s) = 0
stage (Port s lid port) = 0
stage (LevelBlock s) = 1
stage (Level s lid level) = 1
stage (MapBlock s) = 2
stage (Map s lanes) = 2
stage (PairMap row) = 2
stage Certificate = 3
stage (Number channel lane number) = 3

abbrev pub IsOf : ℕ → Given → Type 0
IsOf n g = stage g ≡ n

pub tables_are : (t : Topology) (e : Entries) → All (IsOf 0) (all_tables t e)
tables_are t e = all_parts (IsOf 0) (table_said t e) (enumerate_from 0 t.switches) block
  where
    block : (s : ℕ × SwitchRow) → All (IsOf 0) (table_said t e s)
    block s = All-cons (IsOf 0) (TableBlock s.0) (map (port_of e s.0) (lids_of t)) refl (All-map (IsOf 0) (port_of e s.0) (lids_of t) (λ k d low. refl))

pub levels_are : (t : Topology) (l : LaneTables) → All (IsOf 1) (all_levels t l)
levels_are t l = all_parts (IsOf 1) (levels_block_said t l) (enumerate_from 0 t.switches) block
  where
    block : (s : ℕ × SwitchRow) → All (IsOf 1) (levels_block_said t l s)
    block s = cond_both (is_source t s.0) (LevelBlock s.0 ∷ map (level_of l s.0) (lids_of t)) [] (All (IsOf 1))
        (λ e. All-cons (IsOf 1) (LevelBlock s.0) (map (level_of l s.0) (lids_of t)) refl (All-map (IsOf 1) (level_of l s.0) (lids_of t) (λ k d low. refl)))
        (λ e. All-nil (IsOf 1))

pub maps_are : (t : Topology) (l : LaneTables) → All (IsOf 2) (all_maps t l)
maps_are t l = all_parts (IsOf 2) (map_block_said l) (enumerate_from 0 t.switches) block
  where
    block : (s : ℕ × SwitchRow) → All (IsOf 2) (map_block_said l s)
    block s = All-cons (IsOf 2) (MapBlock s.0) (Map s.0 (general_map l s.0) ∷ map PairMap (filter (is_of_switch s.0) l.pairs)) refl
        (All-cons (IsOf 2) (Map s.0 (general_map l s.0)) (map PairMap (filter (is_of_switch s.0) l.pairs)) refl
        (All-map (IsOf 2) PairMap (filter (is_of_switch s.0) l.pairs) (λ k d low. refl)))

pub numbers_are : (t : Topology) (l : LaneTables) → All (IsOf 3) (all_numbers t l)
numbers_are t l = all_parts (IsOf 3) (numbers_said l) (enumerate_from 0 t.channels) block
  where
    one : (c on_lane : ℕ) → All (IsOf 3) (number_of l c on_lane)
    one c on_lane = cond_both (number l c on_lane == 0) [] (Number c on_lane (number l c on_lane) ∷ []) (All (IsOf 3))
        (λ e. All-nil (IsOf 3)) (λ e. All-cons (IsOf 3) (Number c on_lane (number l c on_lane)) [] refl (All-nil (IsOf 3)))

    block : (c : ℕ × ChannelRow) → All (IsOf 3) (numbers_said l c)
    block c = all_parts (IsOf 3) (number_of l c.0) (range_with_len 0 15) (one c.0)

-- ---- what is taken of one part only

module _ {A : Type 0} (f : Given → List A) where
  -- nothing is taken of the statements of this part
  abbrev pub Passes : ℕ → Type 0
  Passes n = (g : Given) → IsOf n g → f g ≡ []

  none_of : (n : ℕ) (given : List Given) → Passes n → All (IsOf n) given → flat_map f given ≡ []
  none_of n given pass are = nothing_of f given (All-weaker (IsOf n) (λ g. f g ≡ []) pass given are)

  split : (t : Topology) (l : LaneTables) → f Certificate ≡ [] → flat_map f (lanes_said t l) ≡ flat_map f (all_levels t l) ++ flat_map f (all_maps t l) ++ flat_map f (all_numbers t l)
  split t l none =
      flat_map-append f (all_levels t l ++ all_maps t l) (Certificate ∷ all_numbers t l)
      ∙ ap (λ xs. xs ++ flat_map f (Certificate ∷ all_numbers t l)) (flat_map-append f (all_levels t l) (all_maps t l))
      ∙ ap (λ xs. flat_map f (all_levels t l) ++ flat_map f (all_maps t l) ++ (xs ++ flat_map f (all_numbers t l))) none

  abbrev whole : Topology → Entries → LaneTables → List Given
  whole t e l = all_tables t e ++ lanes_said t l

  parts_of : (t : Topology) (e : Entries) (l : LaneTables) → f Certificate ≡ [] →
      flat_map f (whole t e l) ≡ flat_map f (all_tables t e) ++ (flat_map f (all_levels t l) ++ flat_map f (all_maps t l) ++ flat_map f (all_numbers t l))
  parts_of t e l none = flat_map-append f (all_tables t e) (lanes_said t l) ∙ ap (λ xs. flat_map f (all_tables t e) ++ xs) (split t l none)

  module _ (t : Topology) (e : Entries) (l : LaneTables) (none : f Certificate ≡ []) where
    abbrev joined : List A → List A → List A → List A → List A
    joined a b c d = a ++ (b ++ c ++ d)

    pub only_tables : Passes 1 → Passes 2 → Passes 3 → flat_map f (whole t e l) ≡ flat_map f (all_tables t e)
    only_tables levels maps numbers =
        parts_of t e l none
        ∙ ap (λ xs. joined (flat_map f (all_tables t e)) xs (flat_map f (all_maps t l)) (flat_map f (all_numbers t l))) (none_of 1 (all_levels t l) levels (levels_are t l))
        ∙ ap (λ xs. joined (flat_map f (all_tables t e)) [] xs (flat_map f (all_numbers t l))) (none_of 2 (all_maps t l) maps (maps_are t l))
        ∙ ap (λ xs. joined (flat_map f (all_tables t e)) [] [] xs) (none_of 3 (all_numbers t l) numbers (numbers_are t l))
        ∙ append-nil (flat_map f (all_tables t e))

    pub only_levels : Passes 0 → Passes 2 → Passes 3 → flat_map f (whole t e l) ≡ flat_map f (all_levels t l)
    only_levels tables maps numbers =
        parts_of t e l none
        ∙ ap (λ xs. joined xs (flat_map f (all_levels t l)) (flat_map f (all_maps t l)) (flat_map f (all_numbers t l))) (none_of 0 (all_tables t e) tables (tables_are t e))
        ∙ ap (λ xs. joined [] (flat_map f (all_levels t l)) xs (flat_map f (all_numbers t l))) (none_of 2 (all_maps t l) maps (maps_are t l))
        ∙ ap (λ xs. joined [] (flat_map f (all_levels t l)) [] xs) (none_of 3 (all_numbers t l) numbers (numbers_are t l))
        ∙ append-nil (flat_map f (all_levels t l) ++ []) ∙ append-nil (flat_map f (all_levels t l))

    pub only_maps : Passes 0 → Passes 1 → Passes 3 → flat_map f (whole t e l) ≡ flat_map f (all_maps t l)
    only_maps tables levels numbers =
        parts_of t e l none
        ∙ ap (λ xs. joined xs (flat_map f (all_levels t l)) (flat_map f (all_maps t l)) (flat_map f (all_numbers t l))) (none_of 0 (all_tables t e) tables (tables_are t e))
        ∙ ap (λ xs. joined [] xs (flat_map f (all_maps t l)) (flat_map f (all_numbers t l))) (none_of 1 (all_levels t l) levels (levels_are t l))
        ∙ ap (λ xs. joined [] [] (flat_map f (all_maps t l)) xs) (none_of 3 (all_numbers t l) numbers (numbers_are t l))
        ∙ append-nil (flat_map f (all_maps t l))

    pub only_numbers : Passes 0 → Passes 1 → Passes 2 → flat_map f (whole t e l) ≡ flat_map f (all_numbers t l)
    only_numbers tables levels maps =
        parts_of t e l none
        ∙ ap (λ xs. joined xs (flat_map f (all_levels t l)) (flat_map f (all_maps t l)) (flat_map f (all_numbers t l))) (none_of 0 (all_tables t e) tables (tables_are t e))
        ∙ ap (λ xs. joined [] xs (flat_map f (all_maps t l)) (flat_map f (all_numbers t l))) (none_of 1 (all_levels t l) levels (levels_are t l))
        ∙ ap (λ xs. joined [] [] xs (flat_map f (all_numbers t l))) (none_of 2 (all_maps t l) maps (maps_are t l))
