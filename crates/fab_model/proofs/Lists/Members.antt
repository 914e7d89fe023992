-- The elements of a list, and what holds of each of them and of each two.
use Rattle.std.proofs.Common.{◌≡◌, zero, suc, ◌<◌, ◌⊎◌, inl, inr, Bool, true, false, cond, List, [], ◌∷◌, ◌++◌, length, Option, Some, None, refl, sym, ◌∙◌, ap, subst, arith}
use Rattle.std.specs.Prelude.{map, filter, filter_map, All, AllPairs, Contains}
use Rattle.std.specs.List.{list_any, cons_option}
use Rattle.std.proofs.lemmas.Bool.{both_ways, or_cases, or_left, or_right, cases_Bool, cond-true}
use Rattle.std.proofs.lemmas.List.Elements.{All-nil, All-cons, All-head, All-tail, All-contains}
use Rattle.std.proofs.lemmas.List.Kept.{AllPairs-cons}

-- x is an element
abbrev pub In : {X : Type 0} → X → List X → Type 0
In x [] = ⊥
In x (y ∷ ys) = (y ≡ x) ⊎ In x ys

-- R holds of each element and each later one
abbrev pub Pairs : {X : Type 0} → (X → X → Type 0) → List X → Type 0
Pairs R [] = Unit {0}
Pairs {X} R (x ∷ xs) = ((y : X) → In y xs → R x y) × Pairs R xs

-- ---- to and from std's words

pub All_from_in : {X : Type 0} (P : X → Type 0) (xs : List X) → ((x : X) → In x xs → P x) → All P xs
All_from_in P [] each = All-nil P
All_from_in P (x ∷ xs) each = All-cons P x xs (each x (inl refl)) (All_from_in P xs (λ y within. each y (inr within)))

pub in_all : {X : Type 0} (P : X → Type 0) (xs : List X) → All P xs → (x : X) → In x xs → P x
in_all P [] all x within = absurd within
in_all P (y ∷ ys) all x (inl e) = subst P e (All-head P y ys all)
in_all P (y ∷ ys) all x (inr within) = in_all P ys (All-tail P y ys all) x within

pub AllPairs_from_pairs : {X : Type 0} (R : X → X → Type 0) (xs : List X) → Pairs R xs → AllPairs R xs
AllPairs_from_pairs R [] pairs = λ i j d before within. absurd (omega arith)
AllPairs_from_pairs R (x ∷ xs) pairs = AllPairs-cons R x xs (All_from_in (R x) xs pairs.0) (AllPairs_from_pairs R xs pairs.1)

AllPairs-head : {X : Type 0} (R : X → X → Type 0) (x : X) (xs : List X) → AllPairs R (x ∷ xs) → All (R x) xs
AllPairs-head R x xs all = λ k d within. all zero (suc k) d (omega arith) (omega arith)

AllPairs-tail : {X : Type 0} (R : X → X → Type 0) (x : X) (xs : List X) → AllPairs R (x ∷ xs) → AllPairs R xs
AllPairs-tail R x xs all = λ i j d before within. all (suc i) (suc j) d (omega arith) (omega arith)

pub pairs_from_AllPairs : {X : Type 0} (R : X → X → Type 0) (xs : List X) → AllPairs R xs → Pairs R xs
pairs_from_AllPairs R [] all = tt
pairs_from_AllPairs R (x ∷ xs) all =
    (in_all (R x) xs (AllPairs-head R x xs all), pairs_from_AllPairs R xs (AllPairs-tail R x xs all))

pub Contains_from_in : {X : Type 0} (xs : List X) (x : X) → In x xs → Contains xs x
Contains_from_in [] x within = absurd within
Contains_from_in (y ∷ ys) x (inl e) = (zero, omega arith, e)
Contains_from_in (y ∷ ys) x (inr within) =
    let there = Contains_from_in ys x within in (suc there.0, omega arith, there.2)

pub in_from_Contains : {X : Type 0} (xs : List X) (x : X) → Contains xs x → In x xs
in_from_Contains {X} xs x has = All-contains (λ (y : X). In y xs) xs x (All_from_in (λ (y : X). In y xs) xs (λ y within. within)) has

-- ---- elements of maps, filters and joined lists

pub in_map : {X Y : Type 0} (f : X → Y) (xs : List X) (x : X) → In x xs → In (f x) (map f xs)
in_map f [] x within = absurd within
in_map f (y ∷ ys) x (inl e) = inl (ap f e)
in_map f (y ∷ ys) x (inr within) = inr (in_map f ys x within)

pub from_map : {X Y : Type 0} (f : X → Y) (xs : List X) (y : Y) → In y (map f xs) → (x : X) × In x xs × (f x ≡ y)
from_map f [] y within = absurd within
from_map f (x ∷ xs) y (inl e) = (x, inl refl, e)
from_map f (x ∷ xs) y (inr within) = let there = from_map f xs y within in (there.0, inr there.1, there.2)

pub in_filter : {X : Type 0} (p : X → Bool) (xs : List X) (x : X) → In x xs → p x ≡ true → In x (filter p xs)
in_filter p [] x within passes = absurd within
in_filter {X} p (y ∷ ys) x (inl e) passes =
    let passes_too : p y ≡ true = subst (λ (z : X). p z ≡ true) (sym e) passes in
    subst (λ (l : List X). In x l) (sym (cond-true (p y) (y ∷ filter p ys) (filter p ys) passes_too)) (inl e)
in_filter {X} p (y ∷ ys) x (inr within) passes =
    elim (p y) as (λ v. In x (cond v (y ∷ filter p ys) (filter p ys))) [
      | true ↦ inr (in_filter p ys x within passes)
      | false ↦ in_filter p ys x within passes
    ]

from_cond : {X : Type 0} (v : Bool) (y x : X) (ys : List X) → In x (cond v (y ∷ ys) ys) → ((v ≡ true) × (y ≡ x)) ⊎ In x ys
from_cond true y x ys (inl e) = inl (refl, e)
from_cond true y x ys (inr within) = inr within
from_cond false y x ys within = inr within

pub from_filter : {X : Type 0} (p : X → Bool) (xs : List X) (x : X) → In x (filter p xs) → In x xs × (p x ≡ true)
from_filter p [] x within = absurd within
from_filter {X} p (y ∷ ys) x within =
    elim (from_cond (p y) y x (filter p ys) within) [
      | inl same ↦ (inl same.1, subst (λ (z : X). p z ≡ true) same.1 same.0)
      | inr there ↦ let rest = from_filter p ys x there in (inr rest.0, rest.1)
    ]

pub in_left : {X : Type 0} (xs ys : List X) (x : X) → In x xs → In x (xs ++ ys)
in_left [] ys x within = absurd within
in_left (z ∷ zs) ys x (inl e) = inl e
in_left (z ∷ zs) ys x (inr within) = inr (in_left zs ys x within)

pub in_right : {X : Type 0} (xs ys : List X) (x : X) → In x ys → In x (xs ++ ys)
in_right [] ys x within = within
in_right (z ∷ zs) ys x within = inr (in_right zs ys x within)

pub from_append : {X : Type 0} (xs ys : List X) (x : X) → In x (xs ++ ys) → In x xs ⊎ In x ys
from_append [] ys x within = inr within
from_append (z ∷ zs) ys x (inl e) = inl (inl e)
from_append (z ∷ zs) ys x (inr within) =
    elim (from_append zs ys x within) [ inl here ↦ inl (inr here) | inr there ↦ inr there ]

from_cons_option : {X : Type 0} (o : Option X) (xs : List X) (x : X) → In x (cons_option o xs) → (o ≡ Some x) ⊎ In x xs
from_cons_option None xs x within = inr within
from_cons_option (Some y) xs x (inl e) = inl (ap Some e)
from_cons_option (Some y) xs x (inr within) = inr within

pub from_filter_map : {X Y : Type 0} (f : X → Option Y) (xs : List X) (y : Y) → In y (filter_map f xs) → (x : X) × In x xs × (f x ≡ Some y)
from_filter_map f [] y within = absurd within
from_filter_map f (x ∷ xs) y within =
    elim (from_cons_option (f x) (filter_map f xs) y within) [
      | inl e ↦ (x, inl refl, e)
      | inr others ↦ let there = from_filter_map f xs y others in (there.0, inr there.1, there.2)
    ]

pub length_from_in : {X : Type 0} (xs : List X) (x : X) → In x xs → 0 < length xs
length_from_in [] x within = absurd within
length_from_in (y ∷ ys) x within = omega arith

-- ---- a test of some element

pub list_any_from_in : {X : Type 0} (p : X → Bool) (xs : List X) (x : X) → In x xs → p x ≡ true → list_any p xs ≡ true
list_any_from_in p [] x within passes = absurd within
list_any_from_in {X} p (y ∷ ys) x (inl e) passes = or_left (p y) (list_any p ys) (subst (λ (z : X). p z ≡ true) (sym e) passes)
list_any_from_in p (y ∷ ys) x (inr within) passes = or_right (p y) (list_any p ys) (list_any_from_in p ys x within passes)

pub list_any_false : {X : Type 0} (p : X → Bool) (xs : List X) → list_any p xs ≡ false → (x : X) → In x xs → p x ≡ false
list_any_false p xs none x within =
    elim (cases_Bool (p x)) [
      | inl passes ↦ absurd (both_ways (list_any p xs) none (list_any_from_in p xs x within passes))
      | inr fails ↦ fails
    ]

pub from_list_any : {X : Type 0} (p : X → Bool) (xs : List X) → list_any p xs ≡ true → (x : X) × In x xs × (p x ≡ true)
from_list_any p [] some = absurd (cc)
from_list_any p (y ∷ ys) some =
    elim (or_cases (p y) (list_any p ys) some) [
      | inl passes ↦ (y, inl refl, passes)
      | inr others ↦ let there = from_list_any p ys others in (there.0, inr there.1, there.2)
    ]

-- ---- pairs

pub pairs_weaker : {X : Type 0} (R S : X → X → Type 0) (xs : List X) → ((x y : X) → In x xs → In y xs → R x y → S x y) → Pairs R xs → Pairs S xs
pairs_weaker R S [] weaker pairs = tt
pairs_weaker R S (x ∷ xs) weaker pairs =
    (λ y within. weaker x y (inl refl) (inr within) (pairs.0 y within), pairs_weaker R S xs (λ y z one other. weaker y z (inr one) (inr other)) pairs.1)

pub pairs_filter : {X : Type 0} (R : X → X → Type 0) (p : X → Bool) (xs : List X) → Pairs R xs → Pairs R (filter p xs)
pairs_filter R p [] pairs = tt
pairs_filter R p (x ∷ xs) pairs =
    elim (p x) as (λ v. Pairs R (cond v (x ∷ filter p xs) (filter p xs))) [
      | true ↦ (λ y within. pairs.0 y (from_filter p xs y within).0, pairs_filter R p xs pairs.1)
      | false ↦ pairs_filter R p xs pairs.1
    ]

pub pairs_map : {X Y : Type 0} (R : Y → Y → Type 0) (f : X → Y) (xs : List X) → Pairs (λ x y. R (f x) (f y)) xs → Pairs R (map f xs)
pairs_map R f [] pairs = tt
pairs_map {X} {Y} R f (x ∷ xs) pairs = (
  λ y within. let there = from_map f xs y within in subst (λ (z : Y). R (f x) z) there.2 (pairs.0 there.0 there.1),
  pairs_map R f xs pairs.1,
)

pub pairs_join : {X : Type 0} (R : X → X → Type 0) (xs ys : List X) → Pairs R xs → Pairs R ys → ((x y : X) → In x xs → In y ys → R x y) → Pairs R (xs ++ ys)
pairs_join R [] ys one other across = other
pairs_join R (x ∷ xs) ys one other across = (
  λ y within. elim (from_append xs ys y within) [
    | inl here ↦ one.0 y here
    | inr there ↦ across x y (inl refl) there
  ],
  pairs_join R xs ys one.1 other (λ y z in_one in_other. across y z (inr in_one) in_other),
)

pub pairs_append : {X : Type 0} (R : X → X → Type 0) (xs ys : List X) → Pairs R (xs ++ ys) → (x y : X) → In x xs → In y ys → R x y
pairs_append R [] ys pairs x y one other = absurd one
pairs_append {X} R (z ∷ zs) ys pairs x y (inl e) other = subst (λ (w : X). R w y) e (pairs.0 y (in_right zs ys y other))
pairs_append R (z ∷ zs) ys pairs x y (inr one) other = pairs_append R zs ys pairs.1 x y one other

pub pairs_left : {X : Type 0} (R : X → X → Type 0) (xs ys : List X) → Pairs R (xs ++ ys) → Pairs R xs
pairs_left R [] ys pairs = tt
pairs_left R (x ∷ xs) ys pairs = (λ y within. pairs.0 y (in_left xs ys y within), pairs_left R xs ys pairs.1)

pub pairs_right : {X : Type 0} (R : X → X → Type 0) (xs ys : List X) → Pairs R (xs ++ ys) → Pairs R ys
pairs_right R [] ys pairs = pairs
pairs_right R (x ∷ xs) ys pairs = pairs_right R xs ys pairs.1

pub pairs_from_map : {X Y : Type 0} (R : Y → Y → Type 0) (f : X → Y) (xs : List X) → Pairs R (map f xs) → Pairs (λ x y. R (f x) (f y)) xs
pairs_from_map R f [] pairs = tt
pairs_from_map R f (x ∷ xs) pairs = (λ y within. pairs.0 (f y) (in_map f xs y within), pairs_from_map R f xs pairs.1)

pairs_cons_option : {X : Type 0} (R : X → X → Type 0) (o : Option X) (xs : List X) → ((x y : X) → o ≡ Some x → In y xs → R x y) → Pairs R xs → Pairs R (cons_option o xs)
pairs_cons_option R None xs new pairs = pairs
pairs_cons_option R (Some x) xs new pairs = (λ y within. new x y refl within, pairs)

pub pairs_filter_map : {X Y : Type 0} (R : X → X → Type 0) (S : Y → Y → Type 0) (f : X → Option Y) → ((x y : X) (v w : Y) → f x ≡ Some v → f y ≡ Some w → R x y → S v w) → (xs : List X) → Pairs R xs → Pairs S (filter_map f xs)
pairs_filter_map R S f along [] pairs = tt
pairs_filter_map R S f along (x ∷ xs) pairs =
    pairs_cons_option S (f x) (filter_map f xs)
    (λ v w is within. let there = from_filter_map f xs w within in along x there.0 v w is there.2 (pairs.0 there.0 there.1))
    (pairs_filter_map R S f along xs pairs.1)

-- two elements are the same, or stand one before the other
pub cases_pairs : {X : Type 0} (R : X → X → Type 0) (xs : List X) → Pairs R xs → (x y : X) → In x xs → In y xs → (x ≡ y) ⊎ (R x y ⊎ R y x)
cases_pairs R [] pairs x y one other = absurd one
cases_pairs {X} R (z ∷ zs) pairs x y (inl e) (inl e') = inl (sym e ∙ e')
cases_pairs {X} R (z ∷ zs) pairs x y (inl e) (inr other) = inr (inl (subst (λ (w : X). R w y) e (pairs.0 y other)))
cases_pairs {X} R (z ∷ zs) pairs x y (inr one) (inl e) = inr (inr (subst (λ (w : X). R w x) e (pairs.0 x one)))
cases_pairs R (z ∷ zs) pairs x y (inr one) (inr other) = cases_pairs R zs pairs.1 x y one other
