-- Switches with numbers, sorted by (number, switch).
use Rattle.std.proofs.Common.{◌≡◌, ◌≢◌, ℕ, zero, suc, ◌+◌, ◌<◌, ◌≤◌, Bool, true, false, List, [], ◌∷◌, length, cond, eqb, refl, sym, ◌∙◌, ap, subst, inl, inr, ◌⊎◌, arith, Ordering, is_lt, nat_cmp, IsPermutation, add-one}
use Rattle.std.specs.Prelude.{slice_index_or, nat_lt, count_by, ◌==◌}
use Rattle.std.specs.Ordering.{ordering_then}
use Rattle.std.specs.List.Sorted.{IsSortedBy}
use Rattle.std.specs.declared.cmp.Ordering.TheVariants.{Less, Equal, Greater}
use Rattle.std.proofs.lemmas.Bool.{cases_lt, ltb-false, eq-eqb, both_ways}
use Rattle.std.proofs.lemmas.List.Sorted.{sum_by-IsPermutation}
use Rattle.std.proofs.lemmas.List.Sums.{sum_by-cons}
use Rattle.fab_model.specs.declared.rows.SwitchId.{SwitchId}

abbrev pub Ranked : Type 0
Ranked = ℕ × SwitchId

abbrev compared : Ranked → Ranked → Ordering
compared a b = ordering_then (nat_cmp a.0 b.0) (nat_cmp a.1.0 b.1.0)

abbrev IsNotAfter : Ranked → Ranked → Type 0
IsNotAfter a b = (a.0 < b.0) ⊎ ((a.0 ≡ b.0) × (a.1.0 ≤ b.1.0))

by_tests : (a b c d : Bool) → is_lt (ordering_then (cond a Less (cond b Equal Greater)) (cond c Less (cond d Equal Greater))) ≡ false → (a ≡ false) × (b ≡ true → c ≡ false)
by_tests true b c d e = cc
by_tests false true true d e = cc
by_tests false true false d e = (refl, λ x. refl)
by_tests false false c d e = (refl, λ x. absurd (both_ways false refl x))

not_after : (a b : Ranked) → is_lt (compared b a) ≡ false → IsNotAfter a b
not_after a b e = go (cases_lt a.0 b.0)
  where
    tests : (nat_lt b.0 a.0 ≡ false) × (eqb b.0 a.0 ≡ true → nat_lt b.1.0 a.1.0 ≡ false)
    tests = by_tests (nat_lt b.0 a.0) (eqb b.0 a.0) (nat_lt b.1.0 a.1.0) (eqb b.1.0 a.1.0) e

    go : (a.0 < b.0) ⊎ (b.0 ≤ a.0) → IsNotAfter a b
    go (inl less) = inl less
    go (inr more) =
        let same : a.0 ≡ b.0 = omega (arith, ltb-false b.0 a.0 tests.0) in
        inr (same, ltb-false b.1.0 a.1.0 (tests.1 (eq-eqb b.0 a.0 (sym same))))

after_all : (a b c : Ranked) → IsNotAfter a b → IsNotAfter b c → IsNotAfter a c
after_all a b c (inl x) (inl y) = inl (omega arith)
after_all a b c (inl x) (inr y) = inl (omega (arith, y.0))
after_all a b c (inr x) (inl y) = inl (omega (arith, x.0))
after_all a b c (inr x) (inr y) = inr (x.0 ∙ y.0, omega (arith, x.1, y.1))

in_order : (ranked : List Ranked) → IsSortedBy (λ x y. is_lt (compared x y)) ranked → (i j : ℕ) (d : Ranked) → i ≤ j → j < length ranked → IsNotAfter (slice_index_or ranked i d) (slice_index_or ranked j d)
in_order ranked sorted i zero d below low = let e : i ≡ 0 = omega arith in subst (λ k. IsNotAfter (slice_index_or ranked k d) (slice_index_or ranked 0 d)) (sym e) (inr (refl, omega arith))
in_order ranked sorted i (suc j) d below low = go (λ h. in_order ranked sorted i j d h (omega arith)) (cases_lt i (suc j))
  where
    go : (i ≤ j → IsNotAfter (slice_index_or ranked i d) (slice_index_or ranked j d)) → (i < suc j) ⊎ (suc j ≤ i) → IsNotAfter (slice_index_or ranked i d) (slice_index_or ranked (suc j) d)
    go before (inl less) =
        let next : IsNotAfter (slice_index_or ranked j d) (slice_index_or ranked (suc j) d) =
        subst (λ k. IsNotAfter (slice_index_or ranked j d) (slice_index_or ranked k d)) (add-one j) (not_after (slice_index_or ranked j d) (slice_index_or ranked (j + 1) d) (sorted j d (omega arith) (omega arith))) in
        after_all (slice_index_or ranked i d) (slice_index_or ranked j d) (slice_index_or ranked (suc j) d) (before (omega arith)) next
    go before (inr same) = let e : i ≡ suc j = omega arith in subst (λ k. IsNotAfter (slice_index_or ranked k d) (slice_index_or ranked (suc j) d)) (sym e) (inr (refl, omega arith))

-- ---- no switch stands twice

-- how often a switch stands in a list
abbrev pub times : ℕ → List Ranked → ℕ
times v ranked = count_by (λ (pair : Ranked). pair.1.0 == v) ranked

some_time : (v : ℕ) (ranked : List Ranked) (j : ℕ) (d : Ranked) → j < length ranked → (slice_index_or ranked j d).1.0 ≡ v → 0 < times v ranked
some_time v [] j d low e = absurd (omega (arith, low))
some_time v (x ∷ xs) zero d low e = omega (arith, sum_by-cons (λ (pair : Ranked). cond (pair.1.0 == v) 1 0) x xs, ap {B = ℕ} (λ b. cond b 1 0) (eq-eqb x.1.0 v e))
some_time v (x ∷ xs) (suc j) d low e = omega (arith, sum_by-cons (λ (pair : Ranked). cond (pair.1.0 == v) 1 0) x xs, some_time v xs j d (omega (arith, low)) e)

two_times : (v : ℕ) (ranked : List Ranked) (i j : ℕ) (d : Ranked) → i < j → j < length ranked → (slice_index_or ranked i d).1.0 ≡ v → (slice_index_or ranked j d).1.0 ≡ v → 1 < times v ranked
two_times v [] i j d less low e f = absurd (omega (arith, low))
two_times v (x ∷ xs) i zero d less low e f = absurd (omega (arith, less))
two_times v (x ∷ xs) zero (suc j) d less low e f =
    omega (arith, sum_by-cons (λ (pair : Ranked). cond (pair.1.0 == v) 1 0) x xs, ap {B = ℕ} (λ b. cond b 1 0) (eq-eqb x.1.0 v e), some_time v xs j d (omega (arith, low)) f)
two_times v (x ∷ xs) (suc i) (suc j) d less low e f =
    omega (arith, sum_by-cons (λ (pair : Ranked). cond (pair.1.0 == v) 1 0) x xs, two_times v xs i j d (omega (arith, less)) (omega (arith, low)) e f)

-- in a sorted list in which no switch stands twice, each pair comes before the later ones
pub strictly : (unsorted ranked : List Ranked) → ((v : ℕ) → times v unsorted ≤ 1) → IsPermutation unsorted ranked → IsSortedBy (λ x y. is_lt (compared x y)) ranked →
    (i j : ℕ) (d : Ranked) → i < j → j < length ranked →
    ((slice_index_or ranked i d).0 < (slice_index_or ranked j d).0) ⊎ (((slice_index_or ranked i d).0 ≡ (slice_index_or ranked j d).0) × ((slice_index_or ranked i d).1.0 < (slice_index_or ranked j d).1.0))
strictly unsorted ranked once moved sorted i j d less low = go (in_order ranked sorted i j d (omega (arith, less)) low)
  where
    apart : (slice_index_or ranked i d).1.0 ≢ (slice_index_or ranked j d).1.0
    apart same =
        let v : ℕ = (slice_index_or ranked j d).1.0 in
        omega (arith, two_times v ranked i j d less low same refl, sum_by-IsPermutation (λ (pair : Ranked). cond (pair.1.0 == v) 1 0) unsorted ranked moved, once v)

    go : IsNotAfter (slice_index_or ranked i d) (slice_index_or ranked j d) →
        ((slice_index_or ranked i d).0 < (slice_index_or ranked j d).0) ⊎ (((slice_index_or ranked i d).0 ≡ (slice_index_or ranked j d).0) × ((slice_index_or ranked i d).1.0 < (slice_index_or ranked j d).1.0))
    go (inl x) = inl x
    go (inr x) = inr (x.0, omega (arith, x.1, apart))
