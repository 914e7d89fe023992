-- What a loop over the LIDs in use reads: their numbers, one after the other.
use Rattle.std.proofs.Common.{◌≡◌, ℕ, ◌+◌, ◌<◌, ◌≤◌, List, [], ◌∷◌, ◌++◌, length, map, take, get_or, Some, sym, ap, ◌∙◌, arith}
use Rattle.std.specs.Prelude.{slice_get, Contains}
use Rattle.std.proofs.lemmas.List.{take_more, take_all, get_or-map, length-map}
use Rattle.std.proofs.lemmas.Option.{slice_get-get_or}
use Rattle.fab_model.specs.declared.rows.Lid.{Lid}

-- the numbers of LIDs
abbrev pub numbers_of : List Lid → List ℕ
numbers_of lids = map (λ (lid : Lid). lid.0) lids

module _ (lids : List Lid) (numbers : List ℕ) (are : numbers_of lids ≡ numbers) where
  pub as_many : length lids ≡ length numbers
  as_many = sym (length-map lids (λ (lid : Lid). lid.0)) ∙ ap length are

  pub number_at : (k : ℕ) (d : Lid) (n : ℕ) → k < length lids → get_or numbers k n ≡ (get_or lids k d).0
  number_at k d n h = ap (λ (xs : List ℕ). get_or xs k n) (sym are) ∙ get_or-map (λ (lid : Lid). lid.0) lids k d n h

  -- the LID at a place of the list
  pub lid_there : (k : ℕ) (d : Lid) → k < length lids → slice_get numbers k ≡ Some (get_or lids k d).0
  lid_there k d h = slice_get-get_or numbers k 0 (omega (arith, as_many)) ∙ ap Some (number_at k d 0 h)

  pub contains_lid : (k : ℕ) (d : Lid) → k < length lids → Contains numbers (get_or lids k d).0
  contains_lid k d h = (k, omega (arith, as_many), number_at k d (get_or lids k d).0 h)

  pub one_lid_more : (k : ℕ) (d : Lid) → k < length lids → take k numbers ++ (get_or lids k d).0 ∷ [] ≡ take (k + 1) numbers
  one_lid_more k d h = ap (λ n. take k numbers ++ n ∷ []) (sym (number_at k d 0 h)) ∙ sym (take_more numbers k 0 (omega (arith, as_many)))

  pub all_lids : (k : ℕ) → length lids ≤ k → take k numbers ≡ numbers
  all_lids k h = take_all k numbers (omega (arith, as_many))
