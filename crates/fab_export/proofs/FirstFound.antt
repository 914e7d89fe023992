-- The first number that passes a test, as a loop finds it.
use Rattle.std.proofs.Common.{◌≡◌, ℕ, zero, suc, ◌+◌, ◌<◌, ◌≤◌, inl, inr, Bool, true, false, ◌&&◌, List, [], ◌∷◌, length, Option, Some, None, refl, ◌∙◌, ap, arith, get_or}
use Rattle.std.specs.Prelude.{find, filter, map, if◌then◌else◌}
use Rattle.std.specs.List.{list_all, range_with_len}
use Rattle.std.specs.Option.{option_or}
use Rattle.std.proofs.lemmas.Bool.{cases_eq, cond-true, cond-false}
use Rattle.fab_model.specs.Faults.{first_of}
use Rattle.fab_model.proofs.Lists.Members.{In}
use Rattle.fab_model.proofs.Lists.Found.{find_none, from_range, in_range}

-- ---- numbers

module _ (p : ℕ → Bool) where
  -- none of the first numbers passes
  abbrev pub NoneBelow : ℕ → Type 0
  NoneBelow n = (k : ℕ) → k < n → p k ≡ false

  pub none_more : (n : ℕ) → NoneBelow n → p n ≡ false → NoneBelow (n + 1)
  none_more n none here k low = elim (cases_eq k n) [
    | inl same ↦ ap p same ∙ here
    | inr other ↦ none k (omega (arith, low, other))
  ]

  pub none_found : (n : ℕ) → NoneBelow n → find p (range_with_len 0 n) ≡ None
  none_found n none = find_none p (range_with_len 0 n) (λ k within. none k (omega (arith, (from_range 0 n k within).1)))

  found_from : (from count k : ℕ) → from ≤ k → k < from + count → p k ≡ true → ((j : ℕ) → from ≤ j → j < k → p j ≡ false) → find p (range_with_len from count) ≡ Some k
  found_from from zero k low high is none = absurd (omega (arith, low, high))
  found_from from (suc count) k low high is none = elim (cases_eq from k) [
    | inl same ↦ cond-true (p from) (Some from) (find p (range_with_len (from + 1) count)) (ap p same ∙ is) ∙ ap Some same
    | inr other ↦
        cond-false (p from) (Some from) (find p (range_with_len (from + 1) count)) (none from (omega arith) (omega (arith, low, other)))
        ∙ found_from (from + 1) count k (omega (arith, low, other)) (omega (arith, high)) is (λ j above below. none j (omega (arith, above)) below)
  ]

  pub found_here : (n k : ℕ) → k < n → NoneBelow k → p k ≡ true → find p (range_with_len 0 n) ≡ Some k
  found_here n k low none is = found_from 0 n k (omega arith) (omega (arith, low)) is (λ j above below. none j below)

-- ---- numbers that another test keeps

kept_step : (p : ℕ → Bool) (x : ℕ) (kept : List ℕ) (rest : Option ℕ) (b : Bool) → find p kept ≡ rest → find p (if b then x ∷ kept else kept) ≡ (if b && p x then Some x else rest)
kept_step p x kept rest true same = ap (λ o. if p x then Some x else o) same
kept_step p x kept rest false same = same

pub find_kept : (p q : ℕ → Bool) (xs : List ℕ) → find p (filter q xs) ≡ find (λ x. q x && p x) xs
find_kept p q [] = refl
find_kept p q (x ∷ xs) = kept_step p x (filter q xs) (find (λ y. q y && p y) xs) (q x) (find_kept p q xs)

-- ---- all numbers

pub all_pass : (p : ℕ → Bool) (xs : List ℕ) → ((x : ℕ) → In x xs → p x ≡ true) → list_all p xs ≡ true
all_pass p [] each = refl
all_pass p (x ∷ xs) each = ap (λ b. b && list_all p xs) (each x (inl refl)) ∙ all_pass p xs (λ y within. each y (inr within))

pub one_fails : (p : ℕ → Bool) (xs : List ℕ) (x : ℕ) → In x xs → p x ≡ false → list_all p xs ≡ false
one_fails p [] x within is = absurd within
one_fails p (y ∷ xs) x (inl same) is = ap (λ b. b && list_all p xs) (ap p same ∙ is)
one_fails p (y ∷ xs) x (inr within) is = ap (λ b. p y && b) (one_fails p xs x within is) ∙ never (p y)
  where
    never : (b : Bool) → (b && false) ≡ false
    never true = refl
    never false = refl

pub all_below : (p : ℕ → Bool) (n : ℕ) → ((k : ℕ) → k < n → p k ≡ true) → list_all p (range_with_len 0 n) ≡ true
all_below p n each = all_pass p (range_with_len 0 n) (λ k within. each k (omega (arith, (from_range 0 n k within).1)))

pub one_below_fails : (p : ℕ → Bool) (n k : ℕ) → k < n → p k ≡ false → list_all p (range_with_len 0 n) ≡ false
one_below_fails p n k low is = one_fails p (range_with_len 0 n) k (in_range 0 n k (omega arith) (omega (arith, low))) is

-- ---- reasons

module _ {X : Type 0} (reason : ℕ → Option X) where
  pub no_reason : (xs : List ℕ) → ((i d : ℕ) → i < length xs → reason (get_or xs i d) ≡ None) → first_of (map reason xs) ≡ None
  no_reason [] none = refl
  no_reason (x ∷ xs) none = ap (λ o. option_or o (first_of (map reason xs))) (none 0 0 (omega arith)) ∙ no_reason xs (λ i d low. none (suc i) d (omega (arith, low)))

  pub first_reason : (xs : List ℕ) (i d : ℕ) (found : X) → i < length xs → ((j d : ℕ) → j < i → reason (get_or xs j d) ≡ None) → reason (get_or xs i d) ≡ Some found → first_of (map reason xs) ≡ Some found
  first_reason [] i d found low none is = absurd (omega (arith, low))
  first_reason (x ∷ xs) zero d found low none is = ap (λ o. option_or o (first_of (map reason xs))) is
  first_reason (x ∷ xs) (suc i) d found low none is =
      ap (λ o. option_or o (first_of (map reason xs))) (none 0 0 (omega arith))
      ∙ first_reason xs i d found (omega (arith, low)) (λ j e below. none (suc j) e (omega (arith, below))) is
