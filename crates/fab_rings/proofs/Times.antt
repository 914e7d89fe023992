-- How often a number stands in a list.
use Rattle.std.proofs.Common.{◌≡◌, ◌≢◌, ℕ, suc, ◌+◌, ◌<◌, ◌≤◌, Bool, true, cond, List, [], ◌∷◌, ◌++◌, length, take, ap, subst, refl, inl, inr, arith}
use Rattle.std.specs.Prelude.{◌==◌, slice_index_or, Contains, count_by, nat_lt}
use Rattle.std.proofs.lemmas.Bool.{eq-eqb, ne_eqb, cases_Bool, eqb-true, lt-ltb, le-ltb, and_from, and_left, and_right}
use Rattle.std.proofs.lemmas.List.Sums.{sum_by-cons, sum_by_push, sum_by_more, sum_by_more_le, get_or-le-sum_by}
use Rattle.fab_rings.specs.Layers.{times, times_freed, times_ready}

abbrev pub one_if : Bool → ℕ
one_if b = cond b 1 0

pub one_if_same : (m n : ℕ) → m ≡ n → one_if (m == n) ≡ 1
one_if_same m n e = ap one_if (eq-eqb m n e)

pub none_if_other : (m n : ℕ) → m ≢ n → one_if (m == n) ≡ 0
none_if_other m n ne = ap one_if (ne_eqb m n ne)

pub times_front : (n m : ℕ) (ms : List ℕ) → times n (m ∷ ms) ≡ one_if (m == n) + times n ms
times_front n m ms = sum_by-cons (λ x. one_if (x == n)) m ms

pub times_push : (n m : ℕ) (ms : List ℕ) → times n (ms ++ m ∷ []) ≡ times n ms + one_if (m == n)
times_push n m ms = sum_by_push (λ x. one_if (x == n)) ms m

pub times_more : (n i : ℕ) (ms : List ℕ) → i < length ms → times n (take (i + 1) ms) ≡ times n (take i ms) + one_if (slice_index_or ms i 0 == n)
times_more n i ms low = sum_by_more (λ x. one_if (x == n)) ms i 0 low

pub times_so_far : (n i : ℕ) (ms : List ℕ) → i < length ms → times n (take i ms) + one_if (slice_index_or ms i 0 == n) ≤ times n ms
times_so_far n i ms low = sum_by_more_le (λ x. one_if (x == n)) ms i 0 low

-- what is counted stands there
pub some_counted : {A : Type 0} (p : A → Bool) (xs : List A) → 0 < count_by p xs → (x : A) × Contains xs x × (p x ≡ true)
some_counted p [] h = absurd (omega arith)
some_counted {A} p (x ∷ xs) h = elim (cases_Bool (p x)) [
  | inl is ↦ (x, (0, omega arith, refl), is)
  | inr not ↦
      (let rest : (y : A) × Contains xs y × (p y ≡ true) = some_counted p xs (omega (arith, sum_by-cons (λ y. one_if (p y)) x xs, ap one_if not)) in
      (rest.0, (suc rest.1.0, omega (arith, rest.1.1), rest.1.2), rest.2))
]

-- and what stands there is counted
pub counted_there : {A : Type 0} (p : A → Bool) (xs : List A) (x : A) → Contains xs x → p x ≡ true → 0 < count_by p xs
counted_there p xs x has is = omega (arith, get_or-le-sum_by (λ y. one_if (p y)) xs has.0 x has.1, ap (λ y. one_if (p y)) has.2, ap one_if is)

pub stands_there : (n : ℕ) (ns : List ℕ) → 0 < times n ns → Contains ns n
stands_there n ns h =
    let some : (m : ℕ) × Contains ns m × ((m == n) ≡ true) = some_counted (λ m. m == n) ns h in
    subst (λ m. Contains ns m) (eqb-true some.0 n some.2) some.1

pub counts_there : (n : ℕ) (ns : List ℕ) → Contains ns n → 0 < times n ns
counts_there n ns has = counted_there (λ m. m == n) ns n has (eq-eqb n n refl)

-- the tests of readiness
pub freed_now : (old new : ℕ) → new ≡ 0 → 0 < old → times_freed old new ≡ 1
freed_now old new none some = ap one_if (and_from (new == 0) (nat_lt 0 old) (eq-eqb new 0 none) (lt-ltb 0 old some))

pub freed_not : (old new : ℕ) → 0 < new → times_freed old new ≡ 0
freed_not old new some = ap one_if (and_left (new == 0) (nat_lt 0 old) (ne_eqb new 0 (λ e. absurd (omega arith))))

pub freed_never : (old new : ℕ) → old ≤ 0 → times_freed old new ≡ 0
freed_never old new none = ap one_if (and_right (new == 0) (nat_lt 0 old) (le-ltb 0 old none))

pub ready_now : (level left : ℕ) → level ≡ 0 → left ≡ 0 → times_ready level left ≡ 1
ready_now level left a b = ap one_if (and_from (level == 0) (left == 0) (eq-eqb level 0 a) (eq-eqb left 0 b))

pub ready_not_taken : (level left : ℕ) → 0 < level → times_ready level left ≡ 0
ready_not_taken level left h = ap one_if (and_left (level == 0) (left == 0) (ne_eqb level 0 (λ e. absurd (omega arith))))

pub ready_not_left : (level left : ℕ) → 0 < left → times_ready level left ≡ 0
ready_not_left level left h = ap one_if (and_right (level == 0) (left == 0) (ne_eqb left 0 (λ e. absurd (omega arith))))
