-- What stands where in a list.
use Rattle.std.proofs.Common.{◌≡◌, ℕ, zero, suc, ◌+◌, ◌-◌, ◌<◌, ◌≤◌, List, [], ◌∷◌, ◌++◌, length, take, drop, ◌∙◌, sym, ap, subst, refl, inl, inr, ◌⊎◌, arith}
use Rattle.std.specs.Prelude.{All, Contains, slice_index_or}
use Rattle.std.proofs.lemmas.Bool.{cases_lt}
use Rattle.std.proofs.lemmas.List.{length-append, length-take, length-drop, get_or_append_left, get_or-append-add, get_or-append_right, get_or-take, get_or-drop, get_or_default}
use Rattle.fab_rings.specs.declared.strong_components.Group.{Group}
use Rattle.fab_rings.specs.PathSearch.{HasAt, IsLast}

pub at_front : {A : Type 0} (xs ys : List A) (k : ℕ) (x : A) → HasAt xs k x → HasAt (xs ++ ys) k x
at_front xs ys k x at = (omega (arith, length-append xs ys, at.0), get_or_append_left xs ys x k at.0 ∙ at.1)

pub at_back : {A : Type 0} (xs ys : List A) (k : ℕ) (x : A) → HasAt ys k x → HasAt (xs ++ ys) (length xs + k) x
at_back xs ys k x at = (omega (arith, length-append xs ys, at.0), get_or-append-add xs ys k x ∙ at.1)

pub at_end : {A : Type 0} (xs : List A) (x : A) → HasAt (xs ++ x ∷ []) (length xs) x
at_end xs x = (omega (arith, length-append xs (x ∷ [])), ap (λ (k : ℕ). slice_index_or (xs ++ x ∷ []) k x) (sum_zero (length xs)) ∙ get_or-append-add xs (x ∷ []) 0 x)
  where
    sum_zero : (n : ℕ) → n ≡ n + 0
    sum_zero n = omega arith

pub from_append : {A : Type 0} (xs ys : List A) (k : ℕ) (x : A) → HasAt (xs ++ ys) k x → HasAt xs k x ⊎ ((j : ℕ) × (k ≡ length xs + j) × HasAt ys j x)
from_append xs ys k x at = elim (cases_lt k (length xs)) [
  | inl low ↦ inl (low, sym (get_or_append_left xs ys x k low) ∙ at.1)
  | inr past ↦ inr (k - length xs, omega arith, (omega (arith, length-append xs ys, at.0), sym (get_or-append_right xs ys (length xs) k x refl past) ∙ at.1))
]

pub only_one : {A : Type 0} (y x : A) (j : ℕ) → HasAt (y ∷ []) j x → (j ≡ 0) × (y ≡ x)
only_one y x zero at = (refl, at.1)
only_one y x (suc j) at = absurd (omega (arith, at.0))

pub from_push : {A : Type 0} (xs : List A) (y : A) (k : ℕ) (x : A) → HasAt (xs ++ y ∷ []) k x → HasAt xs k x ⊎ ((k ≡ length xs) × (y ≡ x))
from_push xs y k x at = elim (from_append xs (y ∷ []) k x at) [
  | inl front ↦ inl front
  | inr back ↦ (let one : (back.0 ≡ 0) × (y ≡ x) = only_one y x back.0 back.2 in inr (omega (arith, back.1, one.0), one.1))
]

pub same_at : {A : Type 0} (xs : List A) (k : ℕ) (x y : A) → HasAt xs k x → HasAt xs k y → x ≡ y
same_at xs k x y at also = sym at.1 ∙ get_or_default xs k x y at.0 ∙ also.1

pub from_taken : {A : Type 0} (n : ℕ) (xs : List A) (k : ℕ) (x : A) → HasAt (take n xs) k x → (k < n) × HasAt xs k x
from_taken n xs k x at =
    let low : k < n = omega (arith, length-take n xs, at.0) in
    (low, (omega (arith, length-take n xs, at.0), sym (get_or-take n xs k x low) ∙ at.1))

pub taken : {A : Type 0} (n : ℕ) (xs : List A) (k : ℕ) (x : A) → k < n → HasAt xs k x → HasAt (take n xs) k x
taken n xs k x low at = (omega (arith, length-take n xs, at.0, low), get_or-take n xs k x low ∙ at.1)

-- what is left behind a place
pub from_dropped : {A : Type 0} (n : ℕ) (xs : List A) (x : A) → Contains (drop n xs) x → (p : ℕ) × (n ≤ p) × HasAt xs p x
from_dropped n xs x has = (n + has.0, omega arith, (omega (arith, length-drop n xs, has.1), sym (get_or-drop n xs has.0 x) ∙ has.2))

pub dropped : {A : Type 0} (n : ℕ) (xs : List A) (p : ℕ) (x : A) → n ≤ p → HasAt xs p x → Contains (drop n xs) x
dropped n xs p x past at =
    let same : n + (p - n) ≡ p = omega arith in
    (p - n, omega (arith, length-drop n xs, at.0, past), get_or-drop n xs (p - n) x ∙ ap (λ (k : ℕ). slice_index_or xs k x) same ∙ at.1)

pub in_front : {A : Type 0} (xs ys : List A) (x : A) → Contains xs x → Contains (xs ++ ys) x
in_front xs ys x has = let at : HasAt (xs ++ ys) has.0 x = at_front xs ys has.0 x (has.1, has.2) in (has.0, at.0, at.1)

pub in_back : {A : Type 0} (xs ys : List A) (x : A) → Contains ys x → Contains (xs ++ ys) x
in_back xs ys x has = let at : HasAt (xs ++ ys) (length xs + has.0) x = at_back xs ys has.0 x (has.1, has.2) in (length xs + has.0, at.0, at.1)

pub in_either : {A : Type 0} (xs ys : List A) (x : A) → Contains (xs ++ ys) x → Contains xs x ⊎ Contains ys x
in_either xs ys x has = elim (from_append xs ys has.0 x (has.1, has.2)) [
  | inl front ↦ inl (has.0, front.0, front.1)
  | inr back ↦ inr (back.0, back.2.0, back.2.1)
]

pub in_pushed : {A : Type 0} (xs : List A) (y x : A) → Contains (xs ++ y ∷ []) x → Contains xs x ⊎ (y ≡ x)
in_pushed xs y x has = elim (from_push xs y has.0 x (has.1, has.2)) [ inl front ↦ inl (has.0, front.0, front.1) | inr back ↦ inr back.1 ]

pub end_there : {A : Type 0} (xs : List A) (x : A) → Contains (xs ++ x ∷ []) x
end_there xs x = let at : HasAt (xs ++ x ∷ []) (length xs) x = at_end xs x in (length xs, at.0, at.1)

pub all_front : {A : Type 0} (P : A → Type 0) (xs ys : List A) → All P (xs ++ ys) → All P xs
all_front P xs ys all = λ k d low. subst P (get_or_append_left xs ys d k low) (all k d (omega (arith, length-append xs ys, low)))

-- a list that is not empty has a last element
pub last_of : {A : Type 0} (x : A) (xs : List A) → (y : A) × ((front : List A) × (x ∷ xs ≡ front ++ y ∷ []))
last_of x [] = (x, ([], refl))
last_of {A} x (z ∷ xs) = let r : (y : A) × ((front : List A) × (z ∷ xs ≡ front ++ y ∷ [])) = last_of z xs in (r.0, (x ∷ r.1.0, ap (λ (ys : List A). x ∷ ys) r.1.1))

pub some_last : (groups : List Group) → 0 < length groups → (y : Group) × IsLast groups y
some_last [] some = absurd (omega (arith, some))
some_last (x ∷ xs) some = last_of x xs
