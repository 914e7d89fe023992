-- Levels are marked one by one; the map and the spare level are found from the marks.
use Rattle.std.proofs.Common.{◌≡◌, ℕ, ◌+◌, ◌<◌, Bool, true, false, cond, ◌||◌, List, [], ◌∷◌, ◌++◌, length, map, inl, inr, Option, Some, None, refl, sym, ◌∙◌, ap, arith, get_or-set_same, get_or-set_other}
use Rattle.std.specs.Prelude.{filter, not, nat_eq, slice_index_or, slice_set, if◌then◌else◌, unwrap_or}
use Rattle.std.specs.List.{list_any, last_or, range_with_len}
use Rattle.std.specs.Option.{option_eq}
use Rattle.std.proofs.Math.Bool.{or_assoc}
use Rattle.std.proofs.lemmas.Bool.{cases_eq, eq-eqb, ne_eqb}
use Rattle.std.proofs.lemmas.List.{append-nil}
use Rattle.std.proofs.lemmas.List.Folds.{list_any-append}
use Rattle.std.proofs.lemmas.List.FromFn.{fill_by_all, get_or-map-range_with_len}
use Rattle.fab_model.specs.Topology.{Topology, is_source}
use Rattle.fab_model.proofs.Lists.Members.{In}
use Rattle.fab_model.proofs.Lists.Found.{from_range}
use Rattle.fab_model.proofs.Tables.{filter_range_more}
use Rattle.fab_tables.specs.Entries.{Entries}
use Rattle.fab_tables.specs.LaneTables.{LaneTables, lane}
use Rattle.fab_export.specs.LevelsInUse.{level_to, has_level, is_level_of, is_in_use, all_levels, written_lane, written_map, spare_level}

or_none : (b : Bool) → b ≡ (b || false)
or_none true = refl
or_none false = refl

some_more : {X : Type 0} (p : X → Bool) (xs : List X) (x : X) → list_any p (xs ++ x ∷ []) ≡ (list_any p xs || p x)
some_more p xs x = list_any-append p xs (x ∷ []) ∙ ap (λ b. list_any p xs || b) (sym (or_none (p x)))

or_true : (b : Bool) → true ≡ (b || true)
or_true true = refl
or_true false = refl

-- ---- the levels of one source

module _ (t : Topology) (e : Entries) (l : LaneTables) (s : ℕ) where
  -- those that it has at some LIDs are marked
  abbrev pub AreMarked : List Bool → List Bool → List ℕ → Type 0
  AreMarked old now lids = (of_level : ℕ) → of_level < 16 → slice_index_or now of_level false ≡ (slice_index_or old of_level false || list_any (has_level t e l of_level s) lids)

  -- what has the LID
  has_it : (lid of_level found : ℕ) → level_to t e l s lid ≡ Some found → has_level t e l of_level s lid ≡ nat_eq found of_level
  has_it lid of_level found is = ap (λ o. option_eq nat_eq o (Some of_level)) is

  module _ (old now : List Bool) (lids : List ℕ) (lid : ℕ) (are : AreMarked old now lids) where
    more : (of_level : ℕ) → of_level < 16 → (b : Bool) → has_level t e l of_level s lid ≡ b → (slice_index_or now of_level false || b) ≡ (slice_index_or old of_level false || list_any (has_level t e l of_level s) (lids ++ lid ∷ []))
    more of_level low b is =
        ap (λ m. m || b) (are of_level low) ∙ or_assoc (slice_index_or old of_level false) (list_any (has_level t e l of_level s) lids) b
        ∙ ap (λ m. slice_index_or old of_level false || (list_any (has_level t e l of_level s) lids || m)) (sym is)
        ∙ ap (λ m. slice_index_or old of_level false || m) (sym (some_more (has_level t e l of_level s) lids lid))

    pub not_marked : level_to t e l s lid ≡ None → AreMarked old now (lids ++ lid ∷ [])
    not_marked none of_level low =
        or_none (slice_index_or now of_level false) ∙ more of_level low false (ap (λ o. option_eq nat_eq o (Some of_level)) none)

    pub one_marked : (found : ℕ) → level_to t e l s lid ≡ Some found → found < length now → AreMarked old (slice_set now found true) (lids ++ lid ∷ [])
    one_marked found is within of_level low = elim (cases_eq of_level found) [
      | inl same ↦
          ap (λ (n : ℕ). slice_index_or (slice_set now found true) n false) same ∙ get_or-set_same now found true false within ∙ or_true (slice_index_or now of_level false)
          ∙ more of_level low true (has_it lid of_level found is ∙ eq-eqb found of_level (sym same))
      | inr ne ↦
          get_or-set_other now found of_level true false ne ∙ or_none (slice_index_or now of_level false)
          ∙ more of_level low false (has_it lid of_level found is ∙ ne_eqb found of_level (λ same. ne (sym same)))
    ]

-- ---- the levels of all sources

module _ (t : Topology) (e : Entries) (l : LaneTables) where
  -- those of the first switches' sources are marked
  abbrev pub AreUsed : List Bool → ℕ → Type 0
  AreUsed used n = (of_level : ℕ) → of_level < 16 → slice_index_or used of_level false ≡ list_any (λ s. is_level_of t e l s of_level) (filter (is_source t) (range_with_len 0 n))

  pub source_used : (old now : List Bool) (n : ℕ) → AreUsed old n → is_source t n ≡ true → ((of_level : ℕ) → of_level < 16 → slice_index_or now of_level false ≡ (slice_index_or old of_level false || is_level_of t e l n of_level)) → AreUsed now (n + 1)
  source_used old now n are is marked of_level low =
      marked of_level low ∙ ap (λ b. b || is_level_of t e l n of_level) (are of_level low)
      ∙ sym (some_more (λ s. is_level_of t e l s of_level) (filter (is_source t) (range_with_len 0 n)) n)
      ∙ ap (list_any (λ s. is_level_of t e l s of_level)) (sym (filter_range_more (is_source t) n ∙ ap (λ b. filter (is_source t) (range_with_len 0 n) ++ cond b (n ∷ []) []) is))

  pub other_used : (used : List Bool) (n : ℕ) → AreUsed used n → is_source t n ≡ false → AreUsed used (n + 1)
  other_used used n are off of_level low =
      are of_level low ∙ or_none (list_any (λ s. is_level_of t e l s of_level) (filter (is_source t) (range_with_len 0 n)))
      ∙ sym (list_any-append (λ s. is_level_of t e l s of_level) (filter (is_source t) (range_with_len 0 n)) [])
      ∙ ap (list_any (λ s. is_level_of t e l s of_level)) (sym (filter_range_more (is_source t) n ∙ ap (λ b. filter (is_source t) (range_with_len 0 n) ++ cond b (n ∷ []) []) off))

  pub all_used : (used : List Bool) (n : ℕ) → length used ≡ 16 → n ≡ length t.switches → AreUsed used n → used ≡ map (is_in_use t e l) all_levels
  all_used used n whole last are =
      fill_by_all (is_in_use t e l) used 16 false whole (λ k low. are k low ∙ ap (λ m. list_any (λ s. is_level_of t e l s k) (filter (is_source t) (range_with_len 0 m))) last)

  -- ---- what the marks tell

  module _ (used : List Bool) (are : used ≡ map (is_in_use t e l) all_levels) where
    pub used_at : (n : ℕ) → n < 16 → slice_index_or used n false ≡ is_in_use t e l n
    used_at n low = ap (λ (xs : List Bool). slice_index_or xs n false) are ∙ get_or-map-range_with_len (is_in_use t e l) 0 16 n n false low (omega arith)

    pub lane_at_written : (n : ℕ) → n < 16 → (if slice_index_or used n false then lane l 0 n else 15) ≡ written_lane t e l n
    lane_at_written n low = ap (λ b. if b then lane l 0 n else 15) (used_at n low)

    pub map_is : (written : List ℕ) → length written ≡ 16 → ((n : ℕ) → n < 16 → slice_index_or written n 15 ≡ (if slice_index_or used n false then lane l 0 n else 15)) → written ≡ written_map t e l
    unfolding written_map
    map_is written whole each = fill_by_all (written_lane t e l) written 16 15 whole (λ n low. each n low ∙ lane_at_written n low)

-- ---- the greatest of some levels

-- the last of the first levels that isn't marked
abbrev pub last_unmarked : List Bool → ℕ → ℕ
last_unmarked used n = unwrap_or (last_or None (filter (λ k. not (slice_index_or used k false)) (range_with_len 0 n))) 0

last_is : {X : Type 0} (o : Option X) (xs : List X) (x : X) → last_or o (xs ++ x ∷ []) ≡ Some x
last_is o [] x = refl
last_is o (y ∷ ys) x = last_is (Some y) ys x

pub agree_on : (p q : ℕ → Bool) (xs : List ℕ) → ((x : ℕ) → In x xs → p x ≡ q x) → filter p xs ≡ filter q xs
agree_on p q [] agree = refl
agree_on p q (x ∷ xs) agree =
    ap (λ b. cond b (x ∷ filter p xs) (filter p xs)) (agree x (inl refl))
    ∙ ap (λ ys. cond (q x) (x ∷ ys) ys) (agree_on p q xs (λ y within. agree y (inr within)))

pub unmarked_is_last : (used : List Bool) (n : ℕ) → slice_index_or used n false ≡ false → n ≡ last_unmarked used (n + 1)
unmarked_is_last used n off =
    sym (ap (λ xs. unwrap_or (last_or None xs) 0) (filter_range_more (λ k. not (slice_index_or used k false)) n ∙ ap (λ b. filter (λ k. not (slice_index_or used k false)) (range_with_len 0 n) ++ cond (not b) (n ∷ []) []) off)
    ∙ ap (λ (o : Option ℕ). unwrap_or o 0) (last_is None (filter (λ k. not (slice_index_or used k false)) (range_with_len 0 n)) n))

pub marked_stays : (used : List Bool) (n : ℕ) → slice_index_or used n false ≡ true → last_unmarked used n ≡ last_unmarked used (n + 1)
marked_stays used n on =
    ap (λ xs. unwrap_or (last_or None xs) 0)
    (sym (filter_range_more (λ k. not (slice_index_or used k false)) n ∙ ap (λ b. filter (λ k. not (slice_index_or used k false)) (range_with_len 0 n) ++ cond (not b) (n ∷ []) []) on
    ∙ append-nil (filter (λ k. not (slice_index_or used k false)) (range_with_len 0 n))))

pub spare_is : (t : Topology) (e : Entries) (l : LaneTables) (used : List Bool) → used ≡ map (is_in_use t e l) all_levels → last_unmarked used 16 ≡ spare_level t e l
spare_is t e l used are =
    ap (λ xs. unwrap_or (last_or None xs) 0)
    (agree_on (λ k. not (slice_index_or used k false)) (λ k. not (is_in_use t e l k)) (range_with_len 0 16) (λ k within. ap not (used_at t e l used are k (from_range 0 16 k within).1)))
