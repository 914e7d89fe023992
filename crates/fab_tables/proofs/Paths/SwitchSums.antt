-- Sums over switches, and terminals counted switch by switch.
use Rattle.std.proofs.Common.{◌≡◌, ◌≢◌, ℕ, zero, suc, ◌+◌, ◌<◌, ◌≤◌, inl, inr, Bool, true, false, List, [], ◌∷◌, refl, sym, ◌∙◌, ap, arith}
use Rattle.std.specs.Prelude.{◌==◌, sum_by, count_by, if◌then◌else◌}
use Rattle.std.specs.List.{range_with_len}
use Rattle.std.proofs.lemmas.Bool.{cases_eq, eq-eqb, ne_eqb}
use Rattle.std.proofs.lemmas.List.Sums.{sum_by-cons}
use Rattle.fab_model.specs.declared.rows.TerminalRow.{TerminalRow}
use Rattle.fab_model.proofs.Lists.Members.{In}

pub sum_zero : (f : ℕ → ℕ) (xs : List ℕ) → ((x : ℕ) → f x ≡ 0) → sum_by f xs ≡ 0
sum_zero f [] none = refl
sum_zero f (x ∷ xs) none = omega (arith, sum_by-cons f x xs, none x, sum_zero f xs none)

pub sum_both : (f g h : ℕ → ℕ) (xs : List ℕ) → ((x : ℕ) → f x ≡ g x + h x) → sum_by f xs ≡ sum_by g xs + sum_by h xs
sum_both f g h [] same = refl
sum_both f g h (x ∷ xs) same = omega (arith, sum_by-cons f x xs, sum_by-cons g x xs, sum_by-cons h x xs, same x, sum_both f g h xs same)

-- the same terms below the end
same_within : (f g : ℕ → ℕ) (from n : ℕ) → ((x : ℕ) → x < from + n → f x ≡ g x) → sum_by f (range_with_len from n) ≡ sum_by g (range_with_len from n)
same_within f g from zero same = refl
same_within f g from (suc n) same = omega (
  arith,
  sum_by-cons f from (range_with_len (from + 1) n),
  sum_by-cons g from (range_with_len (from + 1) n),
  same from (omega arith),
  same_within f g (from + 1) n (λ x low. same x (omega (arith, low))),
)

pub same_sum : (f g : ℕ → ℕ) (n : ℕ) → ((x : ℕ) → x < n → f x ≡ g x) → sum_by f (range_with_len 0 n) ≡ sum_by g (range_with_len 0 n)
same_sum f g n same = same_within f g 0 n (λ x low. same x (omega (arith, low)))

-- ---- a sum of which one term is another

module _ (f g : ℕ → ℕ) (k : ℕ) (same : (x : ℕ) → x ≢ k → f x ≡ g x) where
  same_past : (from n : ℕ) → k < from → sum_by f (range_with_len from n) ≡ sum_by g (range_with_len from n)
  same_past from zero past = refl
  same_past from (suc n) past = omega (
    arith,
    sum_by-cons f from (range_with_len (from + 1) n),
    sum_by-cons g from (range_with_len (from + 1) n),
    same from (λ e. omega (arith, e, past)),
    same_past (from + 1) n (omega (arith, past)),
  )

  changed_within : (from n : ℕ) → from ≤ k → k < from + n → sum_by f (range_with_len from n) + g k ≡ sum_by g (range_with_len from n) + f k
  changed_within from zero after before = absurd (omega (arith, after, before))
  changed_within from (suc n) after before = elim (cases_eq from k) [
    | inl is ↦ omega (
      arith,
      sum_by-cons f from (range_with_len (from + 1) n),
      sum_by-cons g from (range_with_len (from + 1) n),
      ap f is,
      ap g is,
      same_past (from + 1) n (omega (arith, is)),
    )
    | inr other ↦ omega (
      arith,
      sum_by-cons f from (range_with_len (from + 1) n),
      sum_by-cons g from (range_with_len (from + 1) n),
      same from other,
      changed_within (from + 1) n (omega (arith, after, other)) (omega (arith, before)),
    )
  ]

  pub sum_changed : (n : ℕ) → k < n → sum_by f (range_with_len 0 n) + g k ≡ sum_by g (range_with_len 0 n) + f k
  sum_changed n low = changed_within 0 n (omega arith) (omega (arith, low))

-- a term is within the sum
pub term_within : (f : ℕ → ℕ) (k n : ℕ) → k < n → f k ≤ sum_by f (range_with_len 0 n)
term_within f k n low = within 0 n (omega arith) (omega (arith, low))
  where
    within : (from m : ℕ) → from ≤ k → k < from + m → f k ≤ sum_by f (range_with_len from m)
    within from zero after before = absurd (omega (arith, after, before))
    within from (suc m) after before = elim (cases_eq from k) [
      | inl is ↦ omega (arith, sum_by-cons f from (range_with_len (from + 1) m), ap f is)
      | inr other ↦ omega (arith, sum_by-cons f from (range_with_len (from + 1) m), within (from + 1) m (omega (arith, after, other)) (omega (arith, before)))
    ]

-- ---- terminals

abbrev one_at : (ℕ → Bool) → ℕ → ℕ → ℕ
one_at p k s = if p s then (if k == s then 1 else 0) else 0

zero_if : (b : Bool) → ◌≡◌ {A = ℕ} (if b then 0 else 0) 0
zero_if true = refl
zero_if false = refl

one_other : (p : ℕ → Bool) (k s : ℕ) → k ≢ s → one_at p k s ≡ 0
one_other p k s other = let e : (k == s) ≡ false = ne_eqb k s other in rw e (zero_if (p s))

one_there : (p : ℕ → Bool) (k s : ℕ) → k ≡ s → one_at p k s ≡ (if p k then 1 else 0)
one_there p k s same = let e : (k == s) ≡ true = eq-eqb k s same in rw e (ap (λ (n : ℕ). if p n then 1 else 0) (sym same))

none_past : (p : ℕ → Bool) (k from n : ℕ) → k < from → sum_by (one_at p k) (range_with_len from n) ≡ 0
none_past p k from zero h = refl
none_past p k from (suc n) h = omega (arith, sum_by-cons (one_at p k) from (range_with_len (from + 1) n), one_other p k from (λ e. omega (arith, e, h)), none_past p k (from + 1) n (omega (arith, h)))

one_counted : (p : ℕ → Bool) (k from n : ℕ) → from ≤ k → k < from + n → sum_by (one_at p k) (range_with_len from n) ≡ (if p k then 1 else 0)
one_counted p k from zero h below = absurd (omega (arith, h, below))
one_counted p k from (suc n) h below = elim (cases_eq k from) [
  | inl same ↦ omega (arith, sum_by-cons (one_at p k) from (range_with_len (from + 1) n), one_there p k from same, none_past p k (from + 1) n (omega (arith, same)))
  | inr other ↦ omega (arith, sum_by-cons (one_at p k) from (range_with_len (from + 1) n), one_other p k from other, one_counted p k (from + 1) n (omega (arith, h, other)) (omega (arith, below)))
]

-- how many of the rows are at a switch, if the test holds of it
abbrev pub counted_at : (ℕ → Bool) → List TerminalRow → ℕ → ℕ
counted_at p rows s = if p s then count_by (λ (row : TerminalRow). row.switch.0 == s) rows else 0

-- The terminals whose switch passes a test, counted switch by switch.
pub by_switch : (p : ℕ → Bool) (rows : List TerminalRow) (n : ℕ) → ((row : TerminalRow) → In row rows → row.switch.0 < n) →
    sum_by (counted_at p rows) (range_with_len 0 n) ≡ count_by (λ (row : TerminalRow). p row.switch.0) rows
by_switch p [] n low = sum_zero (counted_at p []) (range_with_len 0 n) (λ s. zero_if (p s))
by_switch p (row ∷ rows) n low =
    sum_both (counted_at p (row ∷ rows)) (one_at p row.switch.0) (counted_at p rows) (range_with_len 0 n) (λ s. split s (p s))
    ∙ ap (λ k. k + sum_by (counted_at p rows) (range_with_len 0 n)) (one_counted p row.switch.0 0 n (omega arith) (omega (arith, low row (inl refl))))
    ∙ ap (λ k. (if p row.switch.0 then 1 else 0) + k) (by_switch p rows n (λ r at. low r (inr at)))
    ∙ sym (sum_by-cons (λ (r : TerminalRow). if p r.switch.0 then 1 else 0) row rows)
  where
    split : (s : ℕ) (b : Bool) → (if b then count_by (λ (r : TerminalRow). r.switch.0 == s) (row ∷ rows) else 0)
        ≡ (if b then (if row.switch.0 == s then 1 else 0) else 0) + (if b then count_by (λ (r : TerminalRow). r.switch.0 == s) rows else 0)
    split s true = sum_by-cons (λ (r : TerminalRow). if r.switch.0 == s then 1 else 0) row rows
    split s false = refl
