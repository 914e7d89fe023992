-- Sums over lists, and how often a key stands in lists of keys.
use Rattle.std.proofs.Common.{◌≡◌, ◌≢◌, ℕ, zero, suc, ◌+◌, ◌≤◌, ◌==◌, List, [], ◌∷◌, Bool, cond, slice_index_or, refl, ap, arith}
use Rattle.std.specs.List.{sum_by}
use Rattle.std.proofs.lemmas.Bool.{eq-eqb, ne_eqb}
use Rattle.std.proofs.lemmas.List.Sums.{sum_by-cons}
use Rattle.fab_depgraph.specs.Edges.{times_key}

module _ {X : Type 0} (f : X → ℕ) (d : X) (none : f d ≡ 0) where
  pub term_below : (xs : List X) (i : ℕ) → f (slice_index_or xs i d) ≤ sum_by f xs
  term_below [] i = omega (arith, none)
  term_below (x ∷ xs) zero = omega (arith, sum_by-cons f x xs)
  term_below (x ∷ xs) (suc i) = omega (arith, sum_by-cons f x xs, term_below xs i)

  pub two_below : (xs : List X) (i j : ℕ) → i ≢ j → f (slice_index_or xs i d) + f (slice_index_or xs j d) ≤ sum_by f xs
  two_below [] i j differ = omega (arith, none)
  two_below (x ∷ xs) zero zero differ = absurd (differ refl)
  two_below (x ∷ xs) zero (suc j) differ = omega (arith, sum_by-cons f x xs, term_below xs j)
  two_below (x ∷ xs) (suc i) zero differ = omega (arith, sum_by-cons f x xs, term_below xs i)
  two_below (x ∷ xs) (suc i) (suc j) differ = omega (arith, sum_by-cons f x xs, two_below xs i j (λ same. differ (ap suc same)))

  pub no_terms : (xs : List X) → ((i : ℕ) → f (slice_index_or xs i d) ≡ 0) → sum_by f xs ≡ 0
  no_terms [] each = refl
  no_terms (x ∷ xs) each = omega (arith, sum_by-cons f x xs, each 0, no_terms xs (λ i. each (suc i)))

abbrev one_if : Bool → ℕ
one_if b = cond b 1 0

pub times_first : (key : ℕ) (keys : List ℕ) → times_key key (key ∷ keys) ≡ suc (times_key key keys)
times_first key keys =
    let one : one_if (key == key) ≡ 1 = ap one_if (eq-eqb key key refl) in
    omega (arith, one, sum_by-cons (λ other. cond (other == key) 1 0) key keys)

pub times_later : (key other : ℕ) (keys : List ℕ) → other ≢ key → times_key key (other ∷ keys) ≡ times_key key keys
times_later key other keys differ =
    let one : one_if (other == key) ≡ 0 = ap one_if (ne_eqb other key differ) in
    omega (arith, one, sum_by-cons (λ k. cond (k == key) 1 0) other keys)
