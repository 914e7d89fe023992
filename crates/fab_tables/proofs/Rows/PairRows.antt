-- Rows in the order of their keys: a row is found, set and put in at its place.
use Rattle.std.proofs.Common.{◌≡◌, ◌≢◌, ℕ, zero, suc, ◌+◌, ◌-◌, ◌<◌, ◌≤◌, Bool, true, false, List, [], ◌∷◌, ◌++◌, length, map, get_or, set, take, drop, cond, Some, None, refl, sym, ◌∙◌, ap, subst, arith, ◌⊎◌, inl, inr}
use Rattle.std.specs.Prelude.{find, filter, nat_lt, ◌==◌, ◌||◌, slice_index}
use Rattle.std.specs.List.{AllWithin, insert, list_any}
use Rattle.std.specs.List.Sorted.{IsStrictlyIncreasing, IsNonDecreasingBy}
use Rattle.std.proofs.lemmas.Bool.{cases_lt, cases_order, cases_eq, eq-eqb, ne_eqb, lt-ltb, le-ltb, or_left, or_right}
use Rattle.std.proofs.lemmas.List.{get_or-map, length-map, map-set, map-append, take-map, drop-map, set-get_or, set_split}
use Rattle.std.proofs.lemmas.List.Kept.{AllPairs-from_increasing}
use Rattle.std.proofs.lemmas.List.Edits.{length-insert, get_or-insert_below, get_or-insert_at, get_or-insert_above}
use Rattle.fab_tables.specs.declared.lanes.PairRow.{PairRow}
use Rattle.fab_tables.specs.LaneTables.{pair_key, with_pair_row}
use Rattle.fab_tables.specs.PairPlaces.{StandsAt, GoesTo}

module _ {X : Type 0} (p : X → Bool) where
  found_first : (xs : List X) (i : ℕ) (d : X) → i < length xs → p (get_or xs i d) ≡ true → ((k : ℕ) → k < i → p (get_or xs k d) ≡ false) → find p xs ≡ Some (get_or xs i d)
  found_first [] i d l h before = absurd (omega arith)
  found_first (x ∷ xs) zero d l h before = ap (λ b. cond b (Some x) (find p xs)) h
  found_first (x ∷ xs) (suc i) d l h before = ap (λ b. cond b (Some x) (find p xs)) (before 0 (omega arith)) ∙ found_first xs i d (omega arith) h (λ k r. before (suc k) (omega arith))

  found_nowhere : (xs : List X) (d : X) → ((k : ℕ) → k < length xs → p (get_or xs k d) ≡ false) → find p xs ≡ None
  found_nowhere [] d none = refl
  found_nowhere (x ∷ xs) d none = ap (λ b. cond b (Some x) (find p xs)) (none 0 (omega arith)) ∙ found_nowhere xs d (λ k r. none (suc k) (omega arith))

  any_there : (xs : List X) (i : ℕ) (d : X) → i < length xs → p (get_or xs i d) ≡ true → list_any p xs ≡ true
  any_there [] i d l h = absurd (omega arith)
  any_there (x ∷ xs) zero d l h = or_left (p x) (list_any p xs) h
  any_there (x ∷ xs) (suc i) d l h = or_right (p x) (list_any p xs) (any_there xs i d (omega arith) h)

  any_nowhere : (xs : List X) (d : X) → ((k : ℕ) → k < length xs → p (get_or xs k d) ≡ false) → list_any p xs ≡ true → ⊥
  any_nowhere [] d none h = cc
  any_nowhere (x ∷ xs) d none h = any_nowhere xs d (λ k r. none (suc k) (omega arith)) (ap (λ b. b || list_any p xs) (sym (none 0 (omega arith))) ∙ h)

  kept_all : (xs : List X) (d : X) → ((k : ℕ) → k < length xs → p (get_or xs k d) ≡ true) → filter p xs ≡ xs
  kept_all [] d all = refl
  kept_all (x ∷ xs) d all = ap (λ b. cond b (x ∷ filter p xs) (filter p xs)) (all 0 (omega arith)) ∙ ap (λ ys. x ∷ ys) (kept_all xs d (λ k r. all (suc k) (omega arith)))

  kept_none : (xs : List X) (d : X) → ((k : ℕ) → k < length xs → p (get_or xs k d) ≡ false) → filter p xs ≡ []
  kept_none [] d none = refl
  kept_none (x ∷ xs) d none = ap (λ b. cond b (x ∷ filter p xs) (filter p xs)) (none 0 (omega arith)) ∙ kept_none xs d (λ k r. none (suc k) (omega arith))

  kept_front : (xs : List X) (i : ℕ) (d : X) → i ≤ length xs → ((k : ℕ) → k < i → p (get_or xs k d) ≡ true) → ((k : ℕ) → i ≤ k → k < length xs → p (get_or xs k d) ≡ false) → filter p xs ≡ take i xs
  kept_front xs zero d l front back = kept_none xs d (λ k r. back k (omega arith) r)
  kept_front [] (suc i) d l front back = absurd (omega arith)
  kept_front (x ∷ xs) (suc i) d l front back = ap (λ b. cond b (x ∷ filter p xs) (filter p xs)) (front 0 (omega arith))
      ∙ ap (λ ys. x ∷ ys) (kept_front xs i d (omega arith) (λ k r. front (suc k) (omega arith)) (λ k r h. back (suc k) (omega arith) (omega arith)))

  kept_back : (xs : List X) (i : ℕ) (d : X) → i ≤ length xs → ((k : ℕ) → k < i → p (get_or xs k d) ≡ false) → ((k : ℕ) → i ≤ k → k < length xs → p (get_or xs k d) ≡ true) → filter p xs ≡ drop i xs
  kept_back xs zero d l front back = kept_all xs d (λ k r. back k (omega arith) r)
  kept_back [] (suc i) d l front back = absurd (omega arith)
  kept_back (x ∷ xs) (suc i) d l front back = ap (λ b. cond b (x ∷ filter p xs) (filter p xs)) (front 0 (omega arith))
      ∙ kept_back xs i d (omega arith) (λ k r. front (suc k) (omega arith)) (λ k r h. back (suc k) (omega arith) (omega arith))

below_from : (x y : ℕ) → x ≢ y → x ≤ y → x < y
below_from x y n h = elim (cases_order x y) [ inl a ↦ absurd (n a) | inr (inl a) ↦ a | inr (inr a) ↦ omega arith ]

-- a number goes to its place
inserted_increase : (ns : List ℕ) (i n : ℕ) → IsStrictlyIncreasing ns → i ≤ length ns → ((k : ℕ) → k < i → slice_index ns k < n) → ((k : ℕ) → i ≤ k → k < length ns → n < slice_index ns k) → IsStrictlyIncreasing (insert ns i n)
inserted_increase ns i n up l front back k h = go (cases_lt (k + 1) i) (cases_order (k + 1) i) (cases_eq k i)
  where
    below : (j : ℕ) → j < i → slice_index (insert ns i n) j ≡ slice_index ns j
    below j r = get_or-insert_below ns i n 0 j r l

    at : slice_index (insert ns i n) i ≡ n
    at = get_or-insert_at ns i n 0 l

    above : (j : ℕ) → i ≤ j → slice_index (insert ns i n) (j + 1) ≡ slice_index ns j
    above j r = get_or-insert_above ns i n 0 j r l

    long : length (insert ns i n) ≡ length ns + 1
    long = length-insert ns i n l

    later : (j : ℕ) → j + 1 ≡ k → i ≤ j → slice_index (insert ns i n) k < slice_index (insert ns i n) (k + 1)
    later j x r =
        omega (arith, ap (λ m. slice_index (insert ns i n) m) x, above j r, above k (omega arith), up j (omega (arith, long)), ap (λ m. slice_index ns m) x)

    go : (k + 1 < i) ⊎ (i ≤ k + 1) → (k + 1 ≡ i) ⊎ ((k + 1 < i) ⊎ (i < k + 1)) → (k ≡ i) ⊎ (k ≢ i) → slice_index (insert ns i n) k < slice_index (insert ns i n) (k + 1)
    go (inl a) b e = omega (arith, below k (omega arith), below (k + 1) a, up k (omega arith))
    go (inr a) (inl b) e = omega (arith, below k (omega arith), ap (λ j. slice_index (insert ns i n) j) b, at, front k (omega arith))
    go (inr a) (inr (inl b)) e = absurd (omega arith)
    go (inr a) (inr (inr b)) (inl e) = omega (arith, ap (λ j. slice_index (insert ns i n) j) e, at, above k (omega arith), back k (omega arith) (omega (arith, long)))
    go (inr a) (inr (inr b)) (inr e) = later (k - 1) (omega arith) (omega arith)

module _ {X : Type 0} (key : X → ℕ) (rows : List X) (up : IsStrictlyIncreasing (map key rows)) where
  key_at : (k : ℕ) (d : X) → k < length rows → slice_index (map key rows) k ≡ key (get_or rows k d)
  key_at k d h = get_or-map key rows k d 0 h

  -- a row's key is below those of later rows
  pub keys_rise : (i j : ℕ) (d : X) → i < j → j < length rows → key (get_or rows i d) < key (get_or rows j d)
  keys_rise i j d a b =
      let there : slice_index (map key rows) i < slice_index (map key rows) j = AllPairs-from_increasing (map key rows) up i j 0 a (omega (arith, length-map rows key)) in
      omega (arith, key_at i d (omega arith), key_at j d b)

  pub keys_not_fall : IsNonDecreasingBy key rows
  keys_not_fall i j d a b = elim (cases_eq i j) [ inl e ↦ omega (arith, ap (λ k. key (get_or rows k d)) e) | inr e ↦ omega (arith, keys_rise i j d (omega arith) b) ]

  module _ (i n : ℕ) (within : i ≤ length rows) (below : AllWithin (λ row. key row < n) rows 0 i) (above : AllWithin (λ row. n ≤ key row) rows i (length rows)) where
    other_before : (d : X) (k : ℕ) → k < i → (key (get_or rows k d) == n) ≡ false
    other_before d k h = ne_eqb (key (get_or rows k d)) n (λ e. omega (arith, below k d (omega arith) h))

    other_after : (d : X) → (i < length rows → key (get_or rows i d) ≢ n) → (k : ℕ) → i ≤ k → k < length rows → n < key (get_or rows k d)
    other_after d other k a b = go (cases_eq k i)
      where
        go : (k ≡ i) ⊎ (k ≢ i) → n < key (get_or rows k d)
        go (inl e) =
            let same : key (get_or rows k d) ≡ key (get_or rows i d) = ap (λ m. key (get_or rows m d)) e in
            let at_least : n ≤ key (get_or rows i d) = above i d (omega arith) (omega arith) in
            below_from n (key (get_or rows k d)) (λ x. other (omega arith) (sym same ∙ sym x)) (omega (arith, same, at_least))
        go (inr e) = omega (arith, above i d (omega arith) (omega arith), keys_rise i k d (omega arith) b)

    no_other : (d : X) → (i < length rows → key (get_or rows i d) ≢ n) → (k : ℕ) → k < length rows → (key (get_or rows k d) == n) ≡ false
    no_other d other k h = elim (cases_lt k i) [
      | inl a ↦ other_before d k a
      | inr a ↦ ne_eqb (key (get_or rows k d)) n (λ e. omega (arith, other_after d other k a h))
    ]

    -- the row of this key is found at its place
    pub found_there : (d : X) → i < length rows → key (get_or rows i d) ≡ n → find (λ row. key row == n) rows ≡ Some (get_or rows i d)
    found_there d l e = found_first (λ row. key row == n) rows i d l (eq-eqb (key (get_or rows i d)) n e) (other_before d)

    pub not_found : (d : X) → (i < length rows → key (get_or rows i d) ≢ n) → find (λ row. key row == n) rows ≡ None
    not_found d other = found_nowhere (λ row. key row == n) rows d (no_other d other)

    front_is : (d : X) → filter (λ row. nat_lt (key row) n) rows ≡ take i rows
    front_is d = kept_front (λ row. nat_lt (key row) n) rows i d within (λ k h. lt-ltb (key (get_or rows k d)) n (below k d (omega arith) h)) (λ k a b. le-ltb (key (get_or rows k d)) n (above k d a b))

    module _ (row : X) (is : key row ≡ n) where
      abbrev placed : List X
      placed = filter (λ p. nat_lt (key p) (key row)) rows ++ row ∷ filter (λ p. nat_lt (key row) (key p)) rows

      front : (d : X) → filter (λ p. nat_lt (key p) (key row)) rows ≡ take i rows
      front d = ap (λ m. filter (λ p. nat_lt (key p) m) rows) is ∙ front_is d

      back_after : (d : X) → i < length rows → key (get_or rows i d) ≡ n → filter (λ p. nat_lt (key row) (key p)) rows ≡ drop (suc i) rows
      back_after d l e = ap (λ m. filter (λ p. nat_lt m (key p)) rows) is ∙ kept_back (λ p. nat_lt n (key p)) rows (suc i) d (omega arith)
          (λ k h. le-ltb n (key (get_or rows k d)) (not_after k h)) (λ k a b. lt-ltb n (key (get_or rows k d)) (omega (arith, keys_rise i k d (omega arith) b)))
        where
          not_after : (k : ℕ) → k < suc i → key (get_or rows k d) ≤ n
          not_after k h = elim (cases_eq k i) [ inl x ↦ omega (arith, ap (λ m. key (get_or rows m d)) x) | inr x ↦ omega (arith, keys_rise k i d (omega arith) l) ]

      back_from : (d : X) → (i < length rows → key (get_or rows i d) ≢ n) → filter (λ p. nat_lt (key row) (key p)) rows ≡ drop i rows
      back_from d other = ap (λ m. filter (λ p. nat_lt m (key p)) rows) is ∙ kept_back (λ p. nat_lt n (key p)) rows i d within
          (λ k h. le-ltb n (key (get_or rows k d)) (omega (arith, below k d (omega arith) h))) (λ k a b. lt-ltb n (key (get_or rows k d)) (other_after d other k a b))

      -- it takes the place of the row of its key
      pub set_there : (d : X) → i < length rows → key (get_or rows i d) ≡ n → set rows i row ≡ placed
      set_there d l e = set_split rows i row l ∙ ap (λ xs. xs ++ row ∷ drop (suc i) rows) (sym (front d)) ∙ ap (λ xs. filter (λ p. nat_lt (key p) (key row)) rows ++ row ∷ xs) (sym (back_after d l e))

      pub keys_stay : (d : X) → i < length rows → key (get_or rows i d) ≡ n → map key (set rows i row) ≡ map key rows
      keys_stay d l e = map-set key rows i row ∙ ap (λ m. set (map key rows) i m) (is ∙ sym e ∙ sym (key_at i d l)) ∙ set-get_or (map key rows) i 0

      -- it is put in at its place
      pub insert_there : (d : X) → (i < length rows → key (get_or rows i d) ≢ n) → insert rows i row ≡ placed
      insert_there d other = ap (λ xs. xs ++ row ∷ drop i rows) (sym (front d)) ∙ ap (λ xs. filter (λ p. nat_lt (key p) (key row)) rows ++ row ∷ xs) (sym (back_from d other))

      pub keys_increase : (d : X) → (i < length rows → key (get_or rows i d) ≢ n) → IsStrictlyIncreasing (map key (insert rows i row))
      keys_increase d other = subst IsStrictlyIncreasing (sym same) (inserted_increase (map key rows) i (key row) up (omega (arith, length-map rows key))
          (λ k h. omega (arith, key_at k d (omega arith), below k d (omega arith) h, is)) (λ k a b. omega (arith, key_at k d (omega (arith, length-map rows key)), other_after d other k a (omega (arith, length-map rows key)), is)))
        where
          same : map key (insert rows i row) ≡ insert (map key rows) i (key row)
          same = map-append key (take i rows) (row ∷ drop i rows) ∙ ap (λ ns. ns ++ key row ∷ map key (drop i rows)) (sym (take-map key i rows)) ∙ ap (λ ns. take i (map key rows) ++ key row ∷ ns) (sym (drop-map key i rows))

    -- whether a row has this key
    pub key_there : (d : X) → i < length rows → key (get_or rows i d) ≡ n → list_any (λ row. key row == n) rows ≡ true
    key_there d l e = any_there (λ row. key row == n) rows i d l (eq-eqb (key (get_or rows i d)) n e)

    pub key_nowhere : (d : X) → (i < length rows → key (get_or rows i d) ≢ n) → list_any (λ row. key row == n) rows ≡ true → ⊥
    key_nowhere d other = any_nowhere (λ row. key row == n) rows d (no_other d other)

-- the same of rows of pairs
some_row : PairRow
some_row = record { switch = record { 0 = 0 }; from_port = 0; to_port = 0; map = [] }

module _ (rows : List PairRow) (up : IsStrictlyIncreasing (map pair_key rows)) (n i : ℕ) where
  pub goes_there : (d : PairRow) → i ≤ length rows → AllWithin (λ row. pair_key row < n) rows 0 i → AllWithin (λ row. n ≤ pair_key row) rows i (length rows) →
      ((e : PairRow) → i < length rows → pair_key (get_or rows i e) ≢ n) → GoesTo rows n i
  goes_there d within below above other = record {
    within = within;
    below = below;
    above = λ k e a b. other_after pair_key rows up i n within below above e (other e) k a b;
  }

  module _ (at : StandsAt rows n i) where
    not_below : AllWithin (λ row. n ≤ pair_key row) rows i (length rows)
    not_below k d a b = elim (cases_eq i k) [ inl e ↦ omega (arith, at.same d, ap (λ m. pair_key (get_or rows m d)) e) | inr e ↦ omega (arith, at.same d, keys_rise pair_key rows up i k d (omega arith) b) ]

    pub pair_found : (d : PairRow) → find (λ row. pair_key row == n) rows ≡ Some (get_or rows i d)
    pair_found d = found_there pair_key rows up i n (omega (arith, at.within)) at.below not_below d at.within (at.same d)

    pub pair_is_there : list_any (λ row. pair_key row == n) rows ≡ true
    pair_is_there = key_there pair_key rows up i n (omega (arith, at.within)) at.below not_below some_row at.within (at.same some_row)

    pub pair_set : (row : PairRow) → pair_key row ≡ n → set rows i row ≡ with_pair_row rows row
    pair_set row is = set_there pair_key rows up i n (omega (arith, at.within)) at.below not_below row is some_row at.within (at.same some_row)

    pub pair_set_keys : (row : PairRow) → pair_key row ≡ n → IsStrictlyIncreasing (map pair_key (set rows i row))
    pair_set_keys row is = subst IsStrictlyIncreasing (sym (keys_stay pair_key rows up i n (omega (arith, at.within)) at.below not_below row is some_row at.within (at.same some_row))) up

  module _ (to : GoesTo rows n i) where
    at_least : AllWithin (λ row. n ≤ pair_key row) rows i (length rows)
    at_least k d a b = omega (arith, to.above k d a b)

    not_here : i < length rows → pair_key (get_or rows i some_row) ≢ n
    not_here h e = omega (arith, to.above i some_row (omega arith) h)

    pub pair_missing : find (λ row. pair_key row == n) rows ≡ None
    pair_missing = not_found pair_key rows up i n to.within to.below at_least some_row not_here

    pub pair_is_nowhere : list_any (λ row. pair_key row == n) rows ≡ true → ⊥
    pair_is_nowhere = key_nowhere pair_key rows up i n to.within to.below at_least some_row not_here

    pub pair_inserted : (row : PairRow) → pair_key row ≡ n → insert rows i row ≡ with_pair_row rows row
    pair_inserted row is = insert_there pair_key rows up i n to.within to.below at_least row is some_row not_here

    pub pair_inserted_keys : (row : PairRow) → pair_key row ≡ n → IsStrictlyIncreasing (map pair_key (insert rows i row))
    pair_inserted_keys row is = keys_increase pair_key rows up i n to.within to.below at_least row is some_row not_here
