-- Elements of lists that are found, counted or enumerated, and lists with the same elements.
use Rattle.std.proofs.Common.{◌≡◌, ℕ, zero, suc, ◌+◌, ◌<◌, ◌≤◌, inl, inr, Bool, true, false, List, [], ◌∷◌, length, Option, Some, None, refl, sym, ◌∙◌, ap, subst, arith}
use Rattle.std.specs.Prelude.{filter_map, find, slice_get}
use Rattle.std.specs.List.{cons_option, enumerate_from, range_with_len}
use Rattle.std.proofs.lemmas.Bool.{cases_Bool, cases_eq, cases_order, both_ways, cond-true, cond-false}
use Rattle.std.proofs.lemmas.Option.{same_Some}
use Rattle.fab_model.proofs.Lists.Members.{In, Pairs}
use Rattle.fab_model.proofs.Faultless.Facts.{slice_get_in}

-- ---- filter_map

in_cons_here : {X : Type 0} (o : Option X) (xs : List X) (x : X) → o ≡ Some x → In x (cons_option o xs)
in_cons_here None xs x is = absurd (cc)
in_cons_here (Some y) xs x is = inl (same_Some y x is)

in_cons_there : {X : Type 0} (o : Option X) (xs : List X) (x : X) → In x xs → In x (cons_option o xs)
in_cons_there None xs x within = within
in_cons_there (Some y) xs x within = inr within

pub in_filter_map : {X Y : Type 0} (f : X → Option Y) (xs : List X) (x : X) (y : Y) → In x xs → f x ≡ Some y → In y (filter_map f xs)
in_filter_map f [] x y within is = absurd within
in_filter_map {X} {Y} f (z ∷ zs) x y (inl e) is =
    in_cons_here (f z) (filter_map f zs) y (ap f e ∙ is)
in_filter_map f (z ∷ zs) x y (inr within) is = in_cons_there (f z) (filter_map f zs) y (in_filter_map f zs x y within is)

pub slice_get_some : {X : Type 0} (xs : List X) (i : ℕ) → i < length xs → (x : X) × (slice_get xs i ≡ Some x)
slice_get_some [] i within = absurd (omega arith)
slice_get_some (x ∷ xs) zero within = (x, refl)
slice_get_some (x ∷ xs) (suc i) within = slice_get_some xs i (omega arith)

pub place_of_in : {X : Type 0} (xs : List X) (x : X) → In x xs → (i : ℕ) × (slice_get xs i ≡ Some x)
place_of_in [] x within = absurd within
place_of_in (y ∷ ys) x (inl e) = (zero, ap Some e)
place_of_in (y ∷ ys) x (inr within) = let there = place_of_in ys x within in (suc there.0, there.1)

-- ---- find

pub from_find : {X : Type 0} (p : X → Bool) (xs : List X) (x : X) → find p xs ≡ Some x → In x xs × (p x ≡ true)
from_find p [] x is = absurd (cc)
from_find {X} p (y ∷ ys) x is =
    elim (cases_Bool (p y)) [
      | inl passes ↦
          let same : y ≡ x = same_Some y x (sym (cond-true (p y) (Some y) (find p ys) passes) ∙ is) in
          (inl same, subst (λ (z : X). p z ≡ true) same passes)
      | inr fails ↦
          let there = from_find p ys x (sym (cond-false (p y) (Some y) (find p ys) fails) ∙ is) in
          (inr there.0, there.1)
    ]

later : {X : Type 0} (p : X → Bool) (x y : X) (ys : List X) → In x (y ∷ ys) → p x ≡ true → p y ≡ false → In x ys
later {X} p x y ys (inl e) passes fails = absurd (both_ways (p y) fails (subst (λ (z : X). p z ≡ true) (sym e) passes))
later p x y ys (inr within) passes fails = within

pub find_only : {X : Type 0} (p : X → Bool) (xs : List X) (x : X) → In x xs → p x ≡ true → ((y : X) → In y xs → p y ≡ true → y ≡ x) → find p xs ≡ Some x
find_only p [] x within passes only = absurd within
find_only {X} p (y ∷ ys) x within passes only =
    elim (cases_Bool (p y)) [
      | inl here ↦ cond-true (p y) (Some y) (find p ys) here ∙ ap Some (only y (inl refl) here)
      | inr fails ↦ cond-false (p y) (Some y) (find p ys) fails ∙ find_only p ys x (later p x y ys within passes fails) passes (λ z in_z passes_z. only z (inr in_z) passes_z)
    ]

pub find_none : {X : Type 0} (p : X → Bool) (xs : List X) → ((x : X) → In x xs → p x ≡ false) → find p xs ≡ None
find_none p [] fails = refl
find_none p (x ∷ xs) fails = cond-false (p x) (Some x) (find p xs) (fails x (inl refl)) ∙ find_none p xs (λ y within. fails y (inr within))

-- ---- enumerated lists and ranges

pub from_enumerate : {X : Type 0} (from : ℕ) (xs : List X) (p : ℕ × X) → In p (enumerate_from from xs) → (i : ℕ) × (p.0 ≡ from + i) × (slice_get xs i ≡ Some p.1)
from_enumerate from [] p within = absurd within
from_enumerate {X} from (x ∷ xs) p (inl e) =
    (zero, sym (ap (λ (q : ℕ × X). q.0) e) ∙ omega arith, ap (λ (q : ℕ × X). Some q.1) e)
from_enumerate from (x ∷ xs) p (inr within) =
    let there = from_enumerate (from + 1) xs p within in (suc there.0, omega (arith, there.1), there.2)

pair_same : {X : Type 0} (i j : ℕ) (x y : X) → i ≡ j → x ≡ y → ◌≡◌ {A = ℕ × X} (i, x) (j, y)
pair_same i j x y e f = cc

pub in_enumerate : {X : Type 0} (from : ℕ) (xs : List X) (i : ℕ) (x : X) → slice_get xs i ≡ Some x → In (from + i, x) (enumerate_from from xs)
in_enumerate from [] i x is = absurd (cc)
in_enumerate {X} from (y ∷ ys) zero x is =
    inl (pair_same from (from + 0) y x (omega arith) (same_Some y x is))
in_enumerate {X} from (y ∷ ys) (suc i) x is =
    let place : (from + 1) + i ≡ from + suc i = omega arith in
    inr (subst (λ (n : ℕ). In (n, x) (enumerate_from (from + 1) ys)) place (in_enumerate (from + 1) ys i x is))

pub pairs_enumerate : {X : Type 0} (R : X → X → Type 0) (from : ℕ) (xs : List X) → Pairs R xs → Pairs (λ p q. R p.1 q.1) (enumerate_from from xs)
pairs_enumerate R from [] pairs = tt
pairs_enumerate R from (x ∷ xs) pairs =
    (λ p within. let there = from_enumerate (from + 1) xs p within in pairs.0 p.1 (slice_get_in xs there.0 p.1 there.2), pairs_enumerate R (from + 1) xs pairs.1)

pub from_range : (from count n : ℕ) → In n (range_with_len from count) → (from ≤ n) × (n < from + count)
from_range from zero n within = absurd within
from_range from (suc count) n (inl e) = (omega (arith, e), omega (arith, e))
from_range from (suc count) n (inr within) = let there = from_range (from + 1) count n within in (omega (arith, there.0), omega (arith, there.1))

above : (from n : ℕ) → from ≤ n → (from ≡ n → ⊥) → from + 1 ≤ n
above from n low apart =
    elim (cases_order from n) [
      | inl e ↦ absurd (apart e)
      | inr (inl less) ↦ omega (arith, less)
      | inr (inr more) ↦ omega (arith, more)
    ]

pub in_range : (from count n : ℕ) → from ≤ n → n < from + count → In n (range_with_len from count)
in_range from zero n low high = absurd (omega arith)
in_range from (suc count) n low high =
    elim (cases_eq from n) [
      | inl e ↦ inl e
      | inr apart ↦ inr (in_range (from + 1) count n (above from n low apart) (omega arith))
    ]

pub range_rises : (from count : ℕ) → Pairs (λ m n. m < n) (range_with_len from count)
range_rises from zero = tt
range_rises from (suc count) = (λ n within. let there = (from_range (from + 1) count n within).0 in omega (arith, there), range_rises (from + 1) count)

-- ---- rising lists with the same elements

same_heads : {X : Type 0} (S : X → X → Type 0) (one_way : (x y : X) → S x y → S y x → ⊥) (x y : X) (xs ys : List X) → Pairs S (x ∷ xs) → Pairs S (y ∷ ys) → In x (y ∷ ys) → In y (x ∷ xs) → x ≡ y
same_heads S one_way x y xs ys rise others (inl e) there = sym e
same_heads S one_way x y xs ys rise others (inr here) (inl e) = e
same_heads S one_way x y xs ys rise others (inr here) (inr there) = absurd (one_way x y (rise.0 y there) (others.0 x here))

not_head : {X : Type 0} (S : X → X → Type 0) (one_way : (x y : X) → S x y → S y x → ⊥) (x y z : X) (ys : List X) → x ≡ y → S x z → In z (y ∷ ys) → In z ys
not_head {X} S one_way x y z ys same rises (inl e) =
    let back : S x x = subst (λ (w : X). S x w) (sym (same ∙ e)) rises in absurd (one_way x x back back)
not_head S one_way x y z ys same rises (inr within) = within

cons_same : {X : Type 0} (x y : X) (xs ys : List X) → x ≡ y → xs ≡ ys → x ∷ xs ≡ y ∷ ys
cons_same x y xs ys e f = cc

pub rising_same : {X : Type 0} (S : X → X → Type 0) → ((x y : X) → S x y → S y x → ⊥) → (xs ys : List X) → Pairs S xs → Pairs S ys → ((x : X) → In x xs → In x ys) → ((x : X) → In x ys → In x xs) → xs ≡ ys
rising_same S one_way [] [] rise others to from = refl
rising_same S one_way [] (y ∷ ys) rise others to from = absurd (from y (inl refl))
rising_same S one_way (x ∷ xs) [] rise others to from = absurd (to x (inl refl))
rising_same S one_way (x ∷ xs) (y ∷ ys) rise others to from =
    let same = same_heads S one_way x y xs ys rise others (to x (inl refl)) (from y (inl refl)) in
    cons_same x y xs ys same
    (rising_same S one_way xs ys rise.1 others.1
    (λ z within. not_head S one_way x y z ys same (rise.0 z within) (to z (inr within)))
    (λ z within. not_head S one_way y x z xs (sym same) (others.0 z within) (from z (inr within))))
