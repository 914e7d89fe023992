-- A list that is longer than its numbers are many has a repeat.
use Rattle.std.proofs.Common.{◌≡◌, ℕ, suc, ◌<◌, ◌⊎◌, inl, inr, List, [], ◌∷◌, length, refl, sym, ap, arith, Some, true, false, Bool, ◌||◌, eqb}
use Rattle.std.specs.Prelude.{slice_get}
use Rattle.std.specs.List.{list_any, IsDistinct, AllByRecursion}
use Rattle.std.proofs.lemmas.Bool.{eqb-true, or_parts, cases_Bool}
use Rattle.std.proofs.lemmas.Map.Keys.{IsDistinct-cons}
use Rattle.std.proofs.lemmas.Map.Steps.{length-le_from_distinct_below}

-- a number stands at two places
abbrev pub HasRepeat : List ℕ → Type 0
HasRepeat xs = (a i j : ℕ) × (i < j) × (slice_get xs i ≡ Some a) × (slice_get xs j ≡ Some a)

at_place : (q : ℕ) (xs : List ℕ) → list_any (eqb q) xs ≡ true → (k : ℕ) × (slice_get xs k ≡ Some q)
at_place q [] h = cc
at_place q (x ∷ xs) h = go (at_place q xs) (eqb q x) refl h
  where
    go : (list_any (eqb q) xs ≡ true → (k : ℕ) × (slice_get xs k ≡ Some q)) → (b : Bool) → eqb q x ≡ b → (b || list_any (eqb q) xs) ≡ true → (k : ℕ) × (slice_get (x ∷ xs) k ≡ Some q)
    go rest true e h = (0, ap Some (sym (eqb-true q x e)))
    go rest false e h = let r : (k : ℕ) × (slice_get xs k ≡ Some q) = rest h in (suc r.0, r.1)

all_others : (x : ℕ) (xs : List ℕ) → list_any (eqb x) xs ≡ false → AllByRecursion (λ y. eqb x y ≡ false) xs
all_others x [] h = tt
all_others x (y ∷ ys) h = let p : (eqb x y ≡ false) × (list_any (eqb x) ys ≡ false) = or_parts (eqb x y) (list_any (eqb x) ys) h in (p.0, all_others x ys p.1)

repeat_or_distinct : (xs : List ℕ) → HasRepeat xs ⊎ IsDistinct eqb xs
unfolding IsDistinct
repeat_or_distinct [] = inr tt
repeat_or_distinct (x ∷ xs) = go (repeat_or_distinct xs) (cases_Bool (list_any (eqb x) xs))
  where
    go : HasRepeat xs ⊎ IsDistinct eqb xs → (list_any (eqb x) xs ≡ true) ⊎ (list_any (eqb x) xs ≡ false) → HasRepeat (x ∷ xs) ⊎ IsDistinct eqb (x ∷ xs)
    go (inl r) b = inl (r.0, suc r.1, suc r.2, omega (arith, r.3), r.4, r.5)
    go (inr d) (inl h) = let there : (k : ℕ) × (slice_get xs k ≡ Some x) = at_place x xs h in inl (x, 0, suc there.0, omega arith, refl, there.1)
    go (inr d) (inr h) = inr (IsDistinct-cons eqb x xs (all_others x xs h) d)

pub pigeonhole : (n : ℕ) (xs : List ℕ) → ((i a : ℕ) → slice_get xs i ≡ Some a → a < n) → n < length xs → HasRepeat xs
pigeonhole n xs below long = elim (repeat_or_distinct xs) [
  | inl r ↦ r
  | inr d ↦ absurd (omega (arith, length-le_from_distinct_below xs n d (λ q h. let there : (k : ℕ) × (slice_get xs k ≡ Some q) = at_place q xs h in below there.0 q there.1)))
]
