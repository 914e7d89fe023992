-- The weights while LIDs are laid: at first those of the kept LIDs, and each laid LID adds what its routes carry.
use Rattle.std.proofs.Common.{◌≡◌, ◌≢◌, ℕ, suc, ◌+◌, ◌<◌, ◌≤◌, ◌⊎◌, inl, inr, Bool, true, false, ◌||◌, List, [], ◌∷◌, length, cond, refl, sym, ◌∙◌, ap, subst, arith}
use Rattle.std.specs.Prelude.{Contains, filter, sum_by, nat_lt, ◌==◌}
use Rattle.std.specs.List.{list_any}
use Rattle.std.specs.List.Sorted.{IsStrictlyIncreasing}
use Rattle.std.proofs.lemmas.Bool.{cases_lt, lt-ltb, le-ltb, eq-eqb, eqb-true, false≢true}
use Rattle.std.proofs.lemmas.List.Kept.{AllPairs-from_increasing, IsStrictlyIncreasing-filter}
use Rattle.std.proofs.lemmas.List.Sums.{sum_by-cons}
use Rattle.fab_model.specs.declared.rows.TerminalRow.{TerminalRow}
use Rattle.fab_model.specs.Topology.{Topology, lids_of}
use Rattle.fab_tables.specs.Entries.{Entries, entry}
use Rattle.fab_tables.specs.Route.{Route, route}
use Rattle.fab_sssp.specs.Carried.{terminals_carried, weight_after}
use Rattle.fab_nue.specs.NuePlan.{IsLaid, laid_before}
use Rattle.fab_nue.proofs.Searching.Growing.{same_or_other}
use Rattle.fab_nue.proofs.Searching.Choosing.{contains_decided}
use Rattle.fab_nue.proofs.Laying.Members.{Rise, rise_from, first, later, first_or_later, in_filter, from_filter, same_members}
use Rattle.fab_tables.proofs.Paths.SameRoutes.{routes_same}
use Rattle.fab_nue.proofs.Searching.SameSearch.{sum_same}

filter_same : (p q : ℕ → Bool) (xs : List ℕ) → ((x : ℕ) → Contains xs x → p x ≡ q x) → filter p xs ≡ filter q xs
filter_same p q [] same = refl
filter_same p q (x ∷ xs) same =
    ap (λ b. cond b (x ∷ filter p xs) (filter p xs)) (same x (first x x xs refl)) ∙ ap (λ ys. cond (q x) (x ∷ ys) ys) (filter_same p q xs (λ y c. same y (later x y xs c)))

-- of an ascending list a filter lets one element more through
one_more : (f : ℕ → ℕ) (p q : ℕ → Bool) (n : ℕ) (xs : List ℕ) → Rise xs → Contains xs n → p n ≡ false → q n ≡ true → ((x : ℕ) → x ≢ n → p x ≡ q x) →
    sum_by f (filter q xs) ≡ sum_by f (filter p xs) + f n
one_more f p q n [] rise has without with_it same = absurd (omega (arith, has.1))
one_more f p q n (y ∷ ys) rise has without with_it same = elim (first_or_later y n ys has) [
  | inl e ↦
      (let others : filter p ys ≡ filter q ys = filter_same p q ys (λ x c. same x (λ d. omega (arith, d, e, rise.0 x c))) in
      let through : filter q (y ∷ ys) ≡ y ∷ filter q ys = ap (λ b. cond b (y ∷ filter q ys) (filter q ys)) (ap q e ∙ with_it) in
      let stopped : filter p (y ∷ ys) ≡ filter p ys = ap (λ b. cond b (y ∷ filter p ys) (filter p ys)) (ap p e ∙ without) in
      omega (arith, ap (sum_by f) through, sum_by-cons f y (filter q ys), ap (sum_by f) stopped, ap (sum_by f) others, ap f e))
  | inr rest ↦
      (let more : sum_by f (filter q ys) ≡ sum_by f (filter p ys) + f n = one_more f p q n ys rise.1 rest without with_it same in
      both (p y) (q y) (same y (λ d. omega (arith, d, rise.0 n rest))) more)
]
  where
    both : (a b : Bool) → a ≡ b → sum_by f (filter q ys) ≡ sum_by f (filter p ys) + f n →
        sum_by f (cond b (y ∷ filter q ys) (filter q ys)) ≡ sum_by f (cond a (y ∷ filter p ys) (filter p ys)) + f n
    both true true e more = omega (arith, more, sum_by-cons f y (filter q ys), sum_by-cons f y (filter p ys))
    both false false e more = more
    both true false e more = absurd (false≢true (sym e))
    both false true e more = absurd (false≢true e)

-- ---- tests of `laid_before`

pub among : (xs : List ℕ) (x : ℕ) → Contains xs x → list_any (λ y. y == x) xs ≡ true
among [] x c = absurd (omega (arith, c.1))
among (y ∷ ys) x c = elim (first_or_later y x ys c) [ inl e ↦ left (y == x) (list_any (λ z. z == x) ys) (eq-eqb y x e) | inr rest ↦ right (y == x) (list_any (λ z. z == x) ys) (among ys x rest) ]
  where
    left : (a b : Bool) → a ≡ true → (a || b) ≡ true
    left true b h = refl
    left false b h = cc

    right : (a b : Bool) → b ≡ true → (a || b) ≡ true
    right true b h = refl
    right false b h = h

pub not_among : (xs : List ℕ) (x : ℕ) → ¬ Contains xs x → list_any (λ y. y == x) xs ≡ false
not_among [] x none = refl
not_among (y ∷ ys) x none = go (not_among ys x (λ c. none (later y x ys c))) (y == x) refl
  where
    go : list_any (λ z. z == x) ys ≡ false → (b : Bool) → (y == x) ≡ b → (b || list_any (λ z. z == x) ys) ≡ false
    go rest true is = absurd (none (first y x ys (eqb-true y x is)))
    go rest false is = rest

abbrev comes_before : List ℕ → ℕ → ℕ → Bool
comes_before kept n x = nat_lt x n || list_any (λ one. one == x) kept

kept_comes : (kept : List ℕ) (n x : ℕ) → Contains kept x → comes_before kept n x ≡ true
kept_comes kept n x c = either (nat_lt x n) (list_any (λ one. one == x) kept) (among kept x c)
  where
    either : (a b : Bool) → b ≡ true → (a || b) ≡ true
    either true b h = refl
    either false b h = h

by_number : (kept : List ℕ) (n x : ℕ) (b : Bool) → ¬ Contains kept x → nat_lt x n ≡ b → comes_before kept n x ≡ b
by_number kept n x true not is = ap (λ a. a || list_any (λ one. one == x) kept) is
by_number kept n x false not is = ap (λ a. a || list_any (λ one. one == x) kept) is ∙ not_among kept x not

-- other numbers come before the next number just where they come before it
others_same : (kept : List ℕ) (n x : ℕ) → x ≢ n → comes_before kept n x ≡ comes_before kept (suc n) x
others_same kept n x other = ap (λ a. a || list_any (λ one. one == x) kept) (go (cases_lt x n))
  where
    go : (x < n) ⊎ (n ≤ x) → nat_lt x n ≡ nat_lt x (suc n)
    go (inl less) = lt-ltb x n less ∙ sym (lt-ltb x (suc n) (omega (arith, less)))
    go (inr more) = le-ltb x n more ∙ sym (le-ltb x (suc n) (omega (arith, more, other)))

-- ---- the weights

module _ (t : Topology) (kept : List ℕ) (rise : IsStrictlyIncreasing (lids_of t)) where
  -- at first the kept LIDs are laid
  pub first_laid : IsStrictlyIncreasing kept → ((lid : ℕ) → Contains kept lid → Contains (lids_of t) lid) → laid_before t kept 0 ≡ kept
  first_laid up used =
      same_members (laid_before t kept 0) kept (IsStrictlyIncreasing-filter (comes_before kept 0) (lids_of t) rise) up
      (λ x c. only_kept x (from_filter (comes_before kept 0) (lids_of t) x c).1) (λ x c. in_filter (comes_before kept 0) (lids_of t) x (used x c) (kept_comes kept 0 x c))
    where
      only_kept : (x : ℕ) → comes_before kept 0 x ≡ true → Contains kept x
      only_kept x h = elim (contains_decided kept x) [ inl c ↦ c | inr not ↦ absurd (false≢true (sym (by_number kept 0 x false not (le-ltb x 0 (omega arith))) ∙ h)) ]

  -- a number that isn't laid adds none
  pub none_laid : (n : ℕ) → ¬ IsLaid t kept n → laid_before t kept (suc n) ≡ laid_before t kept n
  none_laid n not = filter_same (comes_before kept (suc n)) (comes_before kept n) (lids_of t) (λ x used. elim (same_or_other x n) [
    | inl e ↦ at_it x used (subst (λ z. ¬ IsLaid t kept z) (sym e) not)
    | inr other ↦ sym (others_same kept n x other)
  ])
    where
      at_it : (x : ℕ) → Contains (lids_of t) x → ¬ IsLaid t kept x → comes_before kept (suc n) x ≡ comes_before kept n x
      at_it x used none = elim (contains_decided kept x) [ inl c ↦ kept_comes kept (suc n) x c ∙ sym (kept_comes kept n x c) | inr other ↦ absurd (none (used, other)) ]

  -- a laid LID adds what its routes carry
  pub laid_weighs : (e : Entries) (lid c : ℕ) → IsLaid t kept lid → weight_after t e (laid_before t kept (suc lid)) c ≡ weight_after t e (laid_before t kept lid) c + terminals_carried t e lid c
  laid_weighs e lid c is = omega (arith, more)
    where
      more : sum_by (λ l. terminals_carried t e l c) (laid_before t kept (suc lid)) ≡ sum_by (λ l. terminals_carried t e l c) (laid_before t kept lid) + terminals_carried t e lid c
      more = one_more (λ l. terminals_carried t e l c) (comes_before kept lid) (comes_before kept (suc lid)) lid (lids_of t) (rise_from (lids_of t) (AllPairs-from_increasing (lids_of t) rise)) is.0
          (by_number kept lid lid false is.1 (le-ltb lid lid (omega arith))) (by_number kept (suc lid) lid true is.1 (lt-ltb lid (suc lid) (omega arith))) (λ x other. others_same kept lid x other)

  -- and it is one more
  pub laid_counts : (lid : ℕ) → IsLaid t kept lid → length (laid_before t kept (suc lid)) ≡ length (laid_before t kept lid) + 1
  laid_counts lid is = omega (arith, counted (laid_before t kept (suc lid)), counted (laid_before t kept lid), more)
    where
      counted : (xs : List ℕ) → sum_by (λ l. 1) xs ≡ length xs
      counted [] = refl
      counted (x ∷ xs) = omega (arith, sum_by-cons {X = ℕ} (λ l. 1) x xs, counted xs)

      more : sum_by (λ l. 1) (laid_before t kept (suc lid)) ≡ sum_by (λ l. 1) (laid_before t kept lid) + 1
      more = one_more (λ l. 1) (comes_before kept lid) (comes_before kept (suc lid)) lid (lids_of t) (rise_from (lids_of t) (AllPairs-from_increasing (lids_of t) rise)) is.0
          (by_number kept lid lid false is.1 (le-ltb lid lid (omega arith))) (by_number kept (suc lid) lid true is.1 (lt-ltb lid (suc lid) (omega arith))) (λ x other. others_same kept lid x other)

-- entries of other LIDs don't touch what a LID's routes carry
pub carried_same : (t : Topology) (e f : Entries) (lid c : ℕ) → ((s : ℕ) → entry e s lid ≡ entry f s lid) → terminals_carried t e lid c ≡ terminals_carried t f lid c
carried_same t e f lid c same = sum_same (λ (r : TerminalRow). cond {A = ℕ} (list_any (λ d. d == c) ((route t e r.switch.0 lid).channels)) 1 0)
    (λ (r : TerminalRow). cond {A = ℕ} (list_any (λ d. d == c) ((route t f r.switch.0 lid).channels)) 1 0) t.terminals
    (λ r. ap (λ (z : Route). cond {A = ℕ} (list_any (λ d. d == c) z.channels) 1 0) (routes_same t e f lid same r.switch.0))
