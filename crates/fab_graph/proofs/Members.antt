-- An element of a list is its first, or one of the others.
use Rattle.std.proofs.Common.{◌≡◌, ℕ, zero, suc, ◌<◌, List, ◌∷◌, length, ◌⊎◌, inl, inr, refl, arith}
use Rattle.std.specs.Prelude.{Contains, slice_index_or}

pub first : {A : Type 0} (x : A) (xs : List A) → Contains (x ∷ xs) x
first x xs = (zero, omega arith, refl)

pub later : {A : Type 0} (x : A) (xs : List A) (a : A) → Contains xs a → Contains (x ∷ xs) a
later x xs a has = (suc has.0, omega (arith, has.1), has.2)

pub first_or_later : {A : Type 0} (x : A) (xs : List A) (a : A) → Contains (x ∷ xs) a → (x ≡ a) ⊎ Contains xs a
first_or_later x xs a has = go has.0 has.1 has.2
  where
    go : (k : ℕ) → k < length (x ∷ xs) → slice_index_or (x ∷ xs) k a ≡ a → (x ≡ a) ⊎ Contains xs a
    go zero low e = inl e
    go (suc k) low e = inr (k, omega (arith, low), e)
