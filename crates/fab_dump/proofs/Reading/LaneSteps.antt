-- Lanes that fit, are tidy and tell what was said, and one statement more.
use Rattle.std.proofs.Common.{◌≡◌, ◌≢◌, ℕ, ◌+◌, ◌<◌, ◌^◌, Bool, true, false, List, [], ◌∷◌, ◌++◌, length, length-set, map, Some, None, Option, inl, inr, nat_eq, not, refl, sym, ◌∙◌, ap, arith, IfSome, cond}
use Rattle.std.specs.Prelude.{All, count_by, Contains, ◌==◌, ◌&&◌, ◌||◌, if◌then◌else◌, IsFalse}
use Rattle.std.specs.List.{list_any}
use Rattle.std.specs.List.Sorted.{IsStrictlyIncreasing}
use Rattle.std.specs.Str.{bytes_eq}
use Rattle.std.proofs.lemmas.Bool.{ne_eqb, eq-eqb, false≢true}
use Rattle.std.proofs.lemmas.Bool.Decides.{eqb_tells}
use Rattle.std.proofs.lemmas.List.Elements.{All-set, All-head, All-tail}
use Rattle.std.proofs.lemmas.List.Sums.{sum_by-append}
use Rattle.fab_model.specs.Topology.{Topology, is_source}
use Rattle.fab_tables.specs.Entries.{index_of, cell}
use Rattle.fab_tables.specs.declared.lanes.PairRow.{PairRow}
use Rattle.fab_tables.specs.LaneTables.{LaneTables, IsPairRow, level, number, with_level, with_level_in_column, with_lane, with_number, with_pair, with_pair_row, pair_key}
use Rattle.fab_tables.specs.Fit.{LanesFit, PairFits}
use Rattle.fab_tables.proofs.Rows.Cells.{one_level_changes, one_number_changes}
use Rattle.fab_tables.proofs.Rows.LaneSets.{level_set_kept, pairs_kept}
use Rattle.fab_dump.specs.Given.{Given, subject, was_given, with_lanes}
use Rattle.fab_dump.specs.Given.Given.{Number, PairMap}
use Rattle.fab_dump.specs.Lines.{is_pair_map}
use Rattle.fab_dump.specs.Orderly.{LanesTell}
use Rattle.fab_dump.proofs.Reading.Marks.{was_given-push, not_of, or_false, and_true, same_switch}
use Rattle.fab_dump.proofs.Reading.PairSteps.{pair_new, keys_new, all_new, any_new}

pub record AreGood (t : Topology) (given : List Given) (l : LaneTables) : Type 0 where
  pub fits : LanesFit t l
  pub tidy : (s lid : ℕ) → IsFalse (is_source t s) → level l s lid ≡ None
  pub told : LanesTell given l

-- a statement that leaves the lanes and isn't told by them
pub good_other : (t : Topology) (given : List Given) (new : Given) (l : LaneTables) → ((channel lane : ℕ) → bytes_eq (subject new) (subject (Number channel lane 0)) ≡ false) →
    ((row : PairRow) → bytes_eq (subject new) (subject (PairMap row)) ≡ false) → is_pair_map new ≡ false → AreGood t given l → AreGood t (given ++ new ∷ []) l
good_other t given new l number_apart pair_apart no_pair h = record {
  fits = h.fits;
  tidy = h.tidy;
  told = record {
    numbers = λ channel lane low lane_low. h.told.numbers channel lane low lane_low ∙ ap not (sym (not_of given new (Number channel lane 0) (number_apart channel lane)));
    pairs = λ row. h.told.pairs row ∙ sym (not_of given new (PairMap row) (pair_apart row));
    pair_count = sum_by-append (λ g. cond (is_pair_map g) 1 0) given (new ∷ []) ∙ ap (λ b. count_by is_pair_map given + (0 + cond b 1 0)) no_pair ∙ omega (arith, h.told.pair_count);
  };
}

level_kept : (t : Topology) (given : List Given) (l : LaneTables) (s lid : ℕ) (new : Option ℕ) (place : Option ℕ) → index_of lid l.in_use ≡ place → s < l.switches → is_source t s ≡ true → IfSome new (λ n. n < 16) →
    AreGood t given l → ((other other_lid : ℕ) → IsFalse (is_source t other) → level (with_level l s lid new) other other_lid ≡ None) → with_level l s lid new ≡ with_level_in_column l s new place →
    AreGood t given (with_level_in_column l s new place)
level_kept t given l s lid new None there low source few h tidy is = h
level_kept t given l s lid new (Some i) there low source few h tidy is = record {
  fits = record {
    whole = level_set_kept l h.fits.whole (cell l.switches i s) new few;
    switches = h.fits.switches;
    channels = h.fits.channels;
    in_use = h.fits.in_use;
    pairs = h.fits.pairs;
  };
  tidy = λ other other_lid none. ap (λ (k : LaneTables). level k other other_lid) (sym is) ∙ tidy other other_lid none;
  told = record { numbers = h.told.numbers; pairs = h.told.pairs; pair_count = h.told.pair_count };
}

pub good_level : (t : Topology) (given : List Given) (l : LaneTables) (s lid : ℕ) (new : Option ℕ) → Contains l.in_use lid → s < l.switches → is_source t s ≡ true → IfSome new (λ n. n < 16) →
    AreGood t given l → AreGood t given (with_level l s lid new)
good_level t given l s lid new there low source few h = level_kept t given l s lid new (index_of lid l.in_use) refl low source few h tidy refl
  where
    no_source : (other : ℕ) → IsFalse (is_source t other) → (other == s) ≡ false
    no_source other none = ne_eqb other s (λ e. false≢true (sym none ∙ ap (is_source t) e ∙ source))

    tidy : (other other_lid : ℕ) → IsFalse (is_source t other) → level (with_level l s lid new) other other_lid ≡ None
    tidy other other_lid none =
        one_level_changes l s lid other other_lid new h.fits.whole low there
        ∙ ap (λ b. if b && (other_lid == lid) then new else level l other other_lid) (no_source other none) ∙ h.tidy other other_lid none

good_lane : (t : Topology) (given : List Given) (l : LaneTables) (s of_level lane : ℕ) → lane < 16 → AreGood t given l → AreGood t given (with_lane l s of_level lane)
good_lane t given l s of_level lane low h = record {
  fits = record {
    whole = record {
      count = h.fits.whole.count;
      ascending = h.fits.whole.ascending;
      all_levels = h.fits.whole.all_levels;
      low_levels = h.fits.whole.low_levels;
      all_general = length-set l.general (cell 16 s of_level) lane ∙ h.fits.whole.all_general;
      lanes = All-set (λ n. n < 16) l.general (cell 16 s of_level) lane low h.fits.whole.lanes;
      in_order = h.fits.whole.in_order;
      few_pairs = h.fits.whole.few_pairs;
      pairs = h.fits.whole.pairs;
      all_numbers = h.fits.whole.all_numbers;
      low_numbers = h.fits.whole.low_numbers;
    };
    switches = h.fits.switches;
    channels = h.fits.channels;
    in_use = h.fits.in_use;
    pairs = h.fits.pairs;
  };
  tidy = h.tidy;
  told = record { numbers = h.told.numbers; pairs = h.told.pairs; pair_count = h.told.pair_count };
}

pub good_lanes : (t : Topology) (given : List Given) (l : LaneTables) (s of_level : ℕ) (lanes : List ℕ) → All (λ n. n < 16) lanes → AreGood t given l → AreGood t given (with_lanes l s of_level lanes)
good_lanes t given l s of_level [] low h = h
good_lanes t given l s of_level (lane ∷ lanes) low h =
    good_lanes t given (with_lane l s of_level lane) s (of_level + 1) lanes (All-tail (λ n. n < 16) lane lanes low) (good_lane t given l s of_level lane (All-head (λ n. n < 16) lane lanes low) h)

number_told : (x y old same : Bool) (n number : ℕ) → n ≢ 0 → same ≡ (x && y) → nat_eq number 0 ≡ not old → nat_eq (if x && y then n else number) 0 ≡ not (old || same)
number_told true true old same n number some e h = ap (λ b. b) (ne_eqb n 0 some) ∙ sym (ap (λ b. not (old || b)) e ∙ or_not old)
  where
    or_not : (b : Bool) → not (b || true) ≡ false
    or_not true = refl
    or_not false = refl
number_told true false old same n number some e h = h ∙ ap not (sym (ap (λ b. old || b) e ∙ or_false old))
number_told false y old same n number some e h = h ∙ ap not (sym (ap (λ b. old || b) e ∙ or_false old))

pub good_number : (t : Topology) (given : List Given) (l : LaneTables) (channel lane n : ℕ) → channel < l.channels → lane < 15 → n ≢ 0 → n < 2 ^ 32 → AreGood t given l →
    AreGood t (given ++ Number channel lane n ∷ []) (with_number l channel lane n)
good_number t given l channel lane n low lane_low some few h = record {
  fits = record {
    whole = record {
      count = h.fits.whole.count;
      ascending = h.fits.whole.ascending;
      all_levels = h.fits.whole.all_levels;
      low_levels = h.fits.whole.low_levels;
      all_general = h.fits.whole.all_general;
      lanes = h.fits.whole.lanes;
      in_order = h.fits.whole.in_order;
      few_pairs = h.fits.whole.few_pairs;
      pairs = h.fits.whole.pairs;
      all_numbers = length-set l.numbers (cell 15 channel lane) n ∙ h.fits.whole.all_numbers;
      low_numbers = All-set (λ m. m < 2 ^ 32) l.numbers (cell 15 channel lane) n few h.fits.whole.low_numbers;
    };
    switches = h.fits.switches;
    channels = h.fits.channels;
    in_use = h.fits.in_use;
    pairs = h.fits.pairs;
  };
  tidy = h.tidy;
  told = record {
    numbers = λ c k c_low k_low.
        ap (λ m. nat_eq m 0) (one_number_changes l channel lane n c k h.fits.whole low lane_low)
        ∙ number_told (c == channel) (k == lane) (was_given given (Number c k 0)) (bytes_eq (subject (Number channel lane n)) (subject (Number c k 0))) n (number l c k) some (same_parts channel c lane k) (h.told.numbers c k c_low k_low)
        ∙ ap not (sym (was_given-push given (Number channel lane n) (Number c k 0)));
    pairs = λ row. h.told.pairs row ∙ sym (not_of given (Number channel lane n) (PairMap row) refl);
    pair_count = sum_by-append (λ g. cond (is_pair_map g) 1 0) given (Number channel lane n ∷ []) ∙ omega (arith, h.told.pair_count);
  };
}
  where
    turned : (a b : ℕ) → nat_eq a b ≡ nat_eq b a
    turned a b = elim (eqb_tells b a) [ inl y ↦ eq-eqb a b (sym y.1) ∙ sym y.0 | inr y ↦ ne_eqb a b (λ e. y.1 (sym e)) ∙ sym y.0 ]

    same_parts : (a b x y : ℕ) → (nat_eq a b && (nat_eq x y && true)) ≡ (nat_eq b a && nat_eq y x)
    same_parts a b x y = ap (λ v. v && (nat_eq x y && true)) (turned a b) ∙ ap (λ v. nat_eq b a && v) (and_true (nat_eq x y) ∙ turned x y)

pub good_pair : (t : Topology) (given : List Given) (l : LaneTables) (row : PairRow) → was_given given (PairMap row) ≡ false → count_by is_pair_map given ≢ 65536 → IsPairRow l.switches row → PairFits t row →
    AreGood t given l → AreGood t (given ++ PairMap row ∷ []) (with_pair l row)
good_pair t given l row new room is fit h = record {
  fits = record {
    whole = pairs_kept l h.fits.whole (with_pair_row l.pairs row) (keys_new l.pairs up row apart) (omega (arith, pair_new l.pairs up row apart, room_left, h.fits.whole.few_pairs)) (all_new l.pairs up row apart (IsPairRow l.switches) h.fits.whole.pairs is);
    switches = h.fits.switches;
    channels = h.fits.channels;
    in_use = h.fits.in_use;
    pairs = all_new l.pairs up row apart (PairFits t) h.fits.pairs fit;
  };
  tidy = h.tidy;
  told = record {
    numbers = λ channel lane low lane_low. h.told.numbers channel lane low lane_low ∙ ap not (sym (not_of given (PairMap row) (Number channel lane 0) refl));
    pairs = λ other.
        any_new l.pairs up row apart (λ p. pair_key p == pair_key other) ∙ ap (λ b. b || (pair_key row == pair_key other)) (h.told.pairs other)
        ∙ ap (λ b. was_given given (PairMap other) || b) (sym (same_switch (pair_key row) (pair_key other))) ∙ sym (was_given-push given (PairMap row) (PairMap other));
    pair_count = sum_by-append (λ g. cond (is_pair_map g) 1 0) given (PairMap row ∷ []) ∙ omega (arith, h.told.pair_count, pair_new l.pairs up row apart);
  };
}
  where
    up : IsStrictlyIncreasing (map pair_key l.pairs)
    up = h.fits.whole.in_order

    apart : list_any (λ p. pair_key p == pair_key row) l.pairs ≡ false
    apart = h.told.pairs row ∙ new

    room_left : length l.pairs ≢ 65536
    room_left = λ e. room (h.told.pair_count ∙ e)
