-- Maps of pairs of ports, and one more.
use Rattle.std.proofs.Common.{◌≡◌, ℕ, ◌+◌, ◌<◌, ◌≤◌, Bool, true, false, List, ◌∷◌, length, length-set, take, drop, get_or, map, nat_lt, refl, sym, ◌∙◌, ap, subst, arith, inl, inr}
use Rattle.std.specs.Prelude.{All, ◌==◌, ◌||◌}
use Rattle.std.specs.List.{AllWithin, insert, list_any, prefix_len}
use Rattle.std.specs.List.Sorted.{IsStrictlyIncreasing}
use Rattle.std.proofs.lemmas.Bool.{cases_order, cases_eq, ltb-true, ltb-false, eqb-true, eq-eqb, false≢true}
use Rattle.std.proofs.lemmas.List.{take-append-drop, get_or_default}
use Rattle.std.proofs.lemmas.List.Edits.{length-insert}
use Rattle.std.proofs.lemmas.List.Elements.{All-append, All-cons, All-take, All-drop}
use Rattle.std.proofs.lemmas.List.Folds.{list_any-append, Any-from_list_any, list_any_at}
use Rattle.std.proofs.lemmas.List.Sums.{prefix_len-le-length, prefix_len_passes, prefix_len_stops}
use Rattle.fab_tables.specs.declared.lanes.PairRow.{PairRow}
use Rattle.fab_tables.specs.LaneTables.{pair_key, with_pair_row}
use Rattle.fab_tables.specs.PairPlaces.{StandsAt, GoesTo}
use Rattle.fab_tables.proofs.Rows.PairRows.{keys_rise, pair_set, pair_inserted, pair_inserted_keys}

module _ (rows : List PairRow) (up : IsStrictlyIncreasing (map pair_key rows)) (row : PairRow) where
  abbrev is_before : PairRow → Bool
  is_before p = nat_lt (pair_key p) (pair_key row)

  abbrev has_key : PairRow → Bool
  has_key p = pair_key p == pair_key row

  place : ℕ
  place = prefix_len is_before rows

  place_within : place ≤ length rows
  unfolding place
  place_within = prefix_len-le-length is_before rows

  keys_below : AllWithin (λ p. pair_key p < pair_key row) rows 0 place
  unfolding place
  keys_below = λ k d a b. ltb-true (pair_key (get_or rows k d)) (pair_key row) (prefix_len_passes is_before rows k d b)

  key_at_place : (d : PairRow) → place < length rows → pair_key row ≤ pair_key (get_or rows place d)
  unfolding place
  key_at_place d h = ltb-false (pair_key (get_or rows place d)) (pair_key row) (prefix_len_stops is_before rows d h)

  keys_above : AllWithin (λ p. pair_key row ≤ pair_key p) rows place (length rows)
  keys_above = λ k d a b. elim (cases_eq place k) [
    | inl e ↦ omega (arith, key_at_place d (omega arith), ap (λ m. pair_key (get_or rows m d)) e)
    | inr e ↦ omega (arith, key_at_place d (omega arith), keys_rise pair_key rows up place k d (omega arith) b)
  ]

  stands : list_any has_key rows ≡ true → StandsAt rows (pair_key row) place
  stands h =
      let any = Any-from_list_any has_key rows h in
      let k : ℕ = any.0 in
      let x : PairRow = any.1 in
      let same : pair_key x ≡ pair_key row = eqb-true (pair_key x) (pair_key row) any.4 in
      let key : pair_key (get_or rows k x) ≡ pair_key row = ap pair_key any.3 ∙ same in
      let at : k ≡ place
      = elim (cases_order k place) [
        | inl e ↦ e
        | inr (inl a) ↦ absurd (omega (arith, keys_below k x (omega arith) a, key))
        | inr (inr a) ↦ absurd (omega (arith, keys_rise pair_key rows up place k x a any.2, key_at_place x (omega (arith, any.2)), key))
      ] in
      let within : place < length rows = omega (arith, any.2, at) in
      record {
        within = within;
        below = keys_below;
        same = λ d. ap pair_key (get_or_default rows place d x within) ∙ ap (λ m. pair_key (get_or rows m x)) (sym at) ∙ key;
      }

  goes : list_any has_key rows ≡ false → GoesTo rows (pair_key row) place
  goes h = record {
    within = place_within;
    below = keys_below;
    above = λ k d a b. elim (cases_order (pair_key (get_or rows k d)) (pair_key row)) [
      | inl e ↦ absurd (false≢true (sym h ∙ list_any_at has_key rows k d b (eq-eqb (pair_key (get_or rows k d)) (pair_key row) e)))
      | inr (inl low) ↦ absurd (omega (arith, low, keys_above k d a b))
      | inr (inr high) ↦ high
    ];
  }

  -- a pair that has a map gets another
  pub pair_there : list_any has_key rows ≡ true → length (with_pair_row rows row) ≡ length rows
  pair_there h = sym (ap length (pair_set rows up (pair_key row) place (stands h) row refl)) ∙ length-set rows place row

  module _ (h : list_any has_key rows ≡ false) where
    inserted : insert rows place row ≡ with_pair_row rows row
    inserted = pair_inserted rows up (pair_key row) place (goes h) row refl

    pub pair_new : length (with_pair_row rows row) ≡ length rows + 1
    pair_new = sym (ap length inserted) ∙ length-insert rows place row place_within

    pub keys_new : IsStrictlyIncreasing (map pair_key (with_pair_row rows row))
    keys_new = subst (λ xs. IsStrictlyIncreasing (map pair_key xs)) inserted (pair_inserted_keys rows up (pair_key row) place (goes h) row refl)

    pub all_new : (P : PairRow → Type 0) → All P rows → P row → All P (with_pair_row rows row)
    all_new P all one =
        subst (All P) inserted (All-append P (take place rows) (row ∷ drop place rows) (All-take P place rows all) (All-cons P row (drop place rows) one (All-drop P place rows all)))

    moved : (a b c : Bool) → (a || (b || c)) ≡ ((a || c) || b)
    moved true b c = refl
    moved false true true = refl
    moved false true false = refl
    moved false false true = refl
    moved false false false = refl

    pub any_new : (p : PairRow → Bool) → list_any p (with_pair_row rows row) ≡ (list_any p rows || p row)
    any_new p =
        ap (list_any p) (sym inserted) ∙ list_any-append p (take place rows) (row ∷ drop place rows) ∙ moved (list_any p (take place rows)) (p row) (list_any p (drop place rows))
        ∙ ap (λ b. b || p row) (sym (list_any-append p (take place rows) (drop place rows)) ∙ ap (list_any p) (take-append-drop place rows))
