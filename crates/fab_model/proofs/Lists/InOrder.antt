-- A list put in order: it keeps its elements, and stands in order.
use Rattle.std.proofs.Common.{◌≡◌, ◌⊎◌, inl, inr, Bool, true, false, cond, List, [], ◌∷◌, refl, sym, subst}
use Rattle.std.proofs.lemmas.Bool.{cases_Bool, cond-true, cond-false, both_ways}
use Rattle.fab_model.specs.InOrder.{insert_in_order, in_order}
use Rattle.fab_model.proofs.Lists.Members.{In, Pairs}

-- ---- elements

insert_cases : {X : Type 0} (v : Bool) (x y z : X) (ys zs : List X) → In z (cond v (y ∷ zs) (x ∷ y ∷ ys)) → (In z zs → (x ≡ z) ⊎ In z ys) → (x ≡ z) ⊎ In z (y ∷ ys)
insert_cases true x y z ys zs (inl e) others = inr (inl e)
insert_cases true x y z ys zs (inr within) others =
    elim (others within) [ inl e ↦ inl e | inr there ↦ inr (inr there) ]
insert_cases false x y z ys zs (inl e) others = inl e
insert_cases false x y z ys zs (inr within) others = inr within

from_insert : {X : Type 0} (before : X → X → Bool) (x : X) (ys : List X) (z : X) → In z (insert_in_order before x ys) → (x ≡ z) ⊎ In z ys
from_insert before x [] z (inl e) = inl e
from_insert before x [] z (inr within) = absurd within
from_insert before x (y ∷ ys) z within =
    insert_cases (before y x) x y z ys (insert_in_order before x ys) within (λ there. from_insert before x ys z there)

in_insert_new : {X : Type 0} (before : X → X → Bool) (x : X) (ys : List X) → In x (insert_in_order before x ys)
in_insert_new before x [] = inl refl
in_insert_new before x (y ∷ ys) =
    elim (before y x) as (λ v. In x (cond v (y ∷ insert_in_order before x ys) (x ∷ y ∷ ys))) [
      | true ↦ inr (in_insert_new before x ys)
      | false ↦ inl refl
    ]

in_insert_old : {X : Type 0} (before : X → X → Bool) (x : X) (ys : List X) (z : X) → In z ys → In z (insert_in_order before x ys)
in_insert_old before x [] z within = absurd within
in_insert_old before x (y ∷ ys) z (inl e) =
    elim (before y x) as (λ v. In z (cond v (y ∷ insert_in_order before x ys) (x ∷ y ∷ ys))) [
      | true ↦ inl e
      | false ↦ inr (inl e)
    ]
in_insert_old before x (y ∷ ys) z (inr within) =
    elim (before y x) as (λ v. In z (cond v (y ∷ insert_in_order before x ys) (x ∷ y ∷ ys))) [
      | true ↦ inr (in_insert_old before x ys z within)
      | false ↦ inr (inr within)
    ]

pub from_in_order : {X : Type 0} (before : X → X → Bool) (xs : List X) (z : X) → In z (in_order before xs) → In z xs
from_in_order before [] z within = within
from_in_order before (x ∷ xs) z within =
    elim (from_insert before x (in_order before xs) z within) [
      | inl e ↦ inl e
      | inr there ↦ inr (from_in_order before xs z there)
    ]

pub in_in_order : {X : Type 0} (before : X → X → Bool) (xs : List X) (z : X) → In z xs → In z (in_order before xs)
in_in_order before [] z within = within
in_in_order {X} before (x ∷ xs) z (inl e) = subst (λ (w : X). In w (insert_in_order before x (in_order before xs))) e (in_insert_new before x (in_order before xs))
in_in_order before (x ∷ xs) z (inr within) = in_insert_old before x (in_order before xs) z (in_in_order before xs z within)

-- ---- pairs of a relation that has no direction

pairs_insert : {X : Type 0} (R : X → X → Type 0) (before : X → X → Bool) (both : (x y : X) → R x y → R y x) (x : X) (ys : List X) → ((y : X) → In y ys → R x y) → Pairs R ys → Pairs R (insert_in_order before x ys)
pairs_insert R before both x [] new pairs = (λ y within. absurd within, tt)
pairs_insert {X} R before both x (y ∷ ys) new pairs =
    elim (before y x) as (λ v. Pairs R (cond v (y ∷ insert_in_order before x ys) (x ∷ y ∷ ys))) [
      | true ↦ (
        λ z within. elim (from_insert before x ys z within) [
          | inl e ↦ subst (λ (w : X). R y w) e (both x y (new y (inl refl)))
          | inr there ↦ pairs.0 z there
        ],
        pairs_insert R before both x ys (λ z within. new z (inr within)) pairs.1,
      )
      | false ↦ (new, pairs)
    ]

pub pairs_in_order : {X : Type 0} (R : X → X → Type 0) (before : X → X → Bool) → ((x y : X) → R x y → R y x) → (xs : List X) → Pairs R xs → Pairs R (in_order before xs)
pairs_in_order R before both [] pairs = tt
pairs_in_order R before both (x ∷ xs) pairs =
    pairs_insert R before both x (in_order before xs) (λ y within. pairs.0 y (from_in_order before xs y within)) (pairs_in_order R before both xs pairs.1)

-- ---- the order itself

-- one of the two goes before the other
abbrev pub AreApart : {X : Type 0} → (X → X → Bool) → X → X → Type 0
AreApart before x y = (before x y ≡ true) ⊎ (before y x ≡ true)

abbrev pub Goes : {X : Type 0} → (X → X → Bool) → X → X → Type 0
Goes before x y = before x y ≡ true

abbrev pub IsTransitive : {X : Type 0} → (X → X → Bool) → Type 0
IsTransitive {X} before = (x y z : X) → before x y ≡ true → before y z ≡ true → before x z ≡ true

first_goes : {X : Type 0} (before : X → X → Bool) (x y : X) → AreApart before x y → before y x ≡ false → before x y ≡ true
first_goes before x y (inl goes) not_less = goes
first_goes before x y (inr less) not_less = absurd (both_ways (before y x) not_less less)

rise_front : {X : Type 0} (before : X → X → Bool) (along : IsTransitive before) (x y : X) (ys : List X) → before x y ≡ true → Pairs (Goes before) (y ∷ ys) → (z : X) → In z (y ∷ ys) → before x z ≡ true
rise_front {X} before along x y ys goes pairs z (inl e) = subst (λ (w : X). before x w ≡ true) e goes
rise_front before along x y ys goes pairs z (inr within) = along x y z goes (pairs.0 z within)

rise_insert : {X : Type 0} (before : X → X → Bool) (along : IsTransitive before) (x : X) (ys : List X) → ((y : X) → In y ys → AreApart before x y) → Pairs (Goes before) ys → Pairs (Goes before) (insert_in_order before x ys)
rise_insert before along x [] new pairs = (λ y within. absurd within, tt)
rise_insert {X} before along x (y ∷ ys) new pairs =
    elim (cases_Bool (before y x)) [
      | inl less ↦ subst (λ (l : List X). Pairs (Goes before) l) (sym (cond-true (before y x) (y ∷ insert_in_order before x ys) (x ∷ y ∷ ys) less)) (
        λ z within. elim (from_insert before x ys z within) [
          | inl e ↦ subst (λ (w : X). before y w ≡ true) e less
          | inr there ↦ pairs.0 z there
        ],
        rise_insert before along x ys (λ z within. new z (inr within)) pairs.1,
      )
      | inr not_less ↦ subst (λ (l : List X). Pairs (Goes before) l) (sym (cond-false (before y x) (y ∷ insert_in_order before x ys) (x ∷ y ∷ ys) not_less))
          (rise_front before along x y ys (first_goes before x y (new y (inl refl)) not_less) pairs, pairs)
    ]

pub rise_in_order : {X : Type 0} (before : X → X → Bool) → IsTransitive before → (xs : List X) → Pairs (AreApart before) xs → Pairs (Goes before) (in_order before xs)
rise_in_order before along [] pairs = tt
rise_in_order before along (x ∷ xs) pairs =
    rise_insert before along x (in_order before xs) (λ y within. pairs.0 y (from_in_order before xs y within)) (rise_in_order before along xs pairs.1)
