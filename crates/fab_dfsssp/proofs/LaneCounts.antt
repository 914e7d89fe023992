-- How the counts of a lane's edges grow path after path, and fall as a path leaves.
use Rattle.std.proofs.Common.{◌≡◌, ◌≢◌, ℕ, zero, suc, ◌+◌, ◌<◌, ◌≤◌, inl, inr, Bool, true, false, List, [], ◌∷◌, length, refl, sym, ◌∙◌, ap, subst, arith, Some, Contains, Option}
use Rattle.std.specs.Prelude.{slice_get, sum_by, ◌==◌, ◌&&◌, if◌then◌else◌, nat_eq}
use Rattle.std.specs.Option.{option_eq}
use Rattle.std.specs.List.Sorted.{IsStrictlyIncreasing}
use Rattle.std.proofs.lemmas.Bool.{cases_lt, cases_order, eq-eqb, ne_eqb, and_from, and_left, and_right, cond-true, cond-false}
use Rattle.std.proofs.lemmas.List.Kept.{AllPairs-from_increasing}
use Rattle.std.proofs.lemmas.List.Sums.{sum_by-cons}
use Rattle.std.proofs.lemmas.Option.{same_Some, none-some, slice_get_within, get_or_from_slice_get}
use Rattle.fab_model.specs.Topology.{Topology, lids_of}
use Rattle.fab_model.specs.WellFormed.{IsWellFormed}
use Rattle.fab_tables.specs.Entries.{Entries}
use Rattle.fab_tables.specs.Fit.{LanesFit}
use Rattle.fab_tables.specs.LaneTables.{LaneTables, level, with_level}
use Rattle.fab_tables.specs.Route.{route}
use Rattle.fab_tables.proofs.Rows.Cells.{one_level_changes}
use Rattle.fab_tables.proofs.Verdicts.CertifiedLaws.{contains_of}
use Rattle.fab_sssp.specs.LeastWeightTables.{AreLeastWeightTables}
use Rattle.fab_dfsssp.specs.Assignments.{contains_edge, count_below}
use Rattle.fab_dfsssp.specs.LaneCounts.{times_along}
use Rattle.fab_dfsssp.specs.LevelPaths.{is_level_over, level_paths_to, level_paths_over}
use Rattle.fab_dfsssp.proofs.RoutesOnce.{one_if, path_once}
use Rattle.fab_dfsssp.proofs.Weakest.{count_below_more}

-- ---- counts of switches

few_if : (b : Bool) → one_if b ≤ 1
few_if true = omega arith
few_if false = omega arith

pub count_below-le : (n : ℕ) (p : ℕ → Bool) → count_below n p ≤ n
count_below-le zero p = omega arith
count_below-le (suc n) p = omega (arith, count_below-le n p, few_if (p n))

same_below : (n : ℕ) (p q : ℕ → Bool) → ((k : ℕ) → k < n → q k ≡ p k) → count_below n q ≡ count_below n p
same_below zero p q same = refl
same_below (suc n) p q same = omega (arith, same_below n p q (λ k low. same k (omega (arith, low))), ap one_if (same n (omega arith)))

-- at one number a test changes that held or not, and doesn't hold any more
count_falls : (n s : ℕ) (p q : ℕ → Bool) → s < n → ((k : ℕ) → k ≢ s → q k ≡ p k) → q s ≡ false → count_below n q + one_if (p s) ≡ count_below n p
count_falls zero s p q low same off = absurd (omega (arith, low))
count_falls (suc n) s p q low same off = elim (cases_lt s n) [
  | inl before ↦ omega (arith, count_falls n s p q before same off, ap one_if (same n (λ is. omega (arith, is, before))))
  | inr past ↦
      (let here : s ≡ n = omega (arith, low, past) in
      omega (arith, same_below n p q (λ k less. same k (λ is. omega (arith, is, here, less))), ap (λ k. one_if (p k)) here, ap (λ k. one_if (q k)) here, ap one_if off))
]

-- ---- sums over LIDs

-- an element that stands at one place alone
sum_same : (f g : ℕ → ℕ) (xs : List ℕ) (x : ℕ) → ((j : ℕ) → ¬ (slice_get xs j ≡ Some x)) → ((m : ℕ) → m ≢ x → g m ≡ f m) → sum_by g xs ≡ sum_by f xs
sum_same f g [] x never same = refl
sum_same f g (y ∷ ys) x never same =
    omega (
      arith,
      sum_by-cons f y ys,
      sum_by-cons g y ys,
      same y (λ is. never 0 (ap (λ n. Some n) is)),
      sum_same f g ys x (λ j at. never (suc j) at) same,
    )

sum_falls : (f g : ℕ → ℕ) (xs : List ℕ) (k x less : ℕ) → slice_get xs k ≡ Some x → ((j : ℕ) → slice_get xs j ≡ Some x → j ≡ k) → ((m : ℕ) → m ≢ x → g m ≡ f m) → g x + less ≡ f x → sum_by g xs + less ≡ sum_by f xs
sum_falls f g [] k x less at once same here = absurd (none-some x at)
sum_falls f g (y ∷ ys) zero x less at once same here =
    omega (
      arith,
      sum_by-cons f y ys,
      sum_by-cons g y ys,
      here,
      ap f (same_Some y x at),
      ap g (same_Some y x at),
      sum_same f g ys x (λ j there. omega (arith, once (suc j) there)) same,
    )
sum_falls f g (y ∷ ys) (suc k) x less at once same here =
    omega (
      arith,
      sum_by-cons f y ys,
      sum_by-cons g y ys,
      same y (λ is. omega (arith, once 0 (ap (λ n. Some n) is))),
      sum_falls f g ys k x less at (λ j there. omega (arith, once (suc j) there)) same here,
    )

ascending_once : (xs : List ℕ) → IsStrictlyIncreasing xs → (i j x : ℕ) → slice_get xs i ≡ Some x → slice_get xs j ≡ Some x → i ≡ j
ascending_once xs rises i j x a b = elim (cases_order i j) [
  | inl same ↦ same
  | inr (inl less) ↦ absurd (apart i j less a b)
  | inr (inr more) ↦ absurd (apart j i more b a)
]
  where
    apart : (i j : ℕ) → i < j → slice_get xs i ≡ Some x → slice_get xs j ≡ Some x → ⊥
    apart i j less a b =
        omega (
          arith,
          AllPairs-from_increasing xs rises i j x less (slice_get_within xs j x b),
          get_or_from_slice_get xs i x x a,
          get_or_from_slice_get xs j x x b,
        )

-- ---- a path leaves the lane

on_if : (o : Option ℕ) (lane : ℕ) (there : Bool) → o ≡ Some lane → (option_eq nat_eq o (Some lane) && there) ≡ there
on_if o lane there is = ap (λ p. option_eq nat_eq p (Some lane) && there) is ∙ ap (λ b. b && there) (eq-eqb lane lane refl)

off_if : (o : Option ℕ) (n lane : ℕ) (there : Bool) → o ≡ Some n → n ≢ lane → (option_eq nat_eq o (Some lane) && there) ≡ false
off_if o n lane there is other = ap (λ p. option_eq nat_eq p (Some lane) && there) is ∙ ap (λ b. b && there) (ne_eqb n lane other)

module _ (t : Topology) (e : Entries) (good : IsWellFormed t) (tables : AreLeastWeightTables t e) (now : LaneTables) (fits : LanesFit t now) (s lid k lane n : ℕ) (low : s < length t.switches)
    (at : slice_get (lids_of t) k ≡ Some lid) (other : n ≢ lane) (on : level now s lid ≡ Some lane) where
  abbrev new : LaneTables
  new = with_level now s lid (Some n)

  changed : (o m : ℕ) → level new o m ≡ (if (o == s) && (m == lid) then Some n else level now o m)
  changed o m = one_level_changes now s lid o m (Some n) fits.whole (omega (arith, low, fits.switches)) (subst (λ ns. Contains ns lid) (sym fits.in_use) (contains_of (lids_of t) k lid at))

  given : level new s lid ≡ Some n
  given = changed s lid ∙ cond-true ((s == s) && (lid == lid)) (Some n) (level now s lid) (and_from (s == s) (lid == lid) (eq-eqb s s refl) (eq-eqb lid lid refl))

  other_switch : (o m : ℕ) → o ≢ s → level new o m ≡ level now o m
  other_switch o m ne = changed o m ∙ cond-false ((o == s) && (m == lid)) (Some n) (level now o m) (and_left (o == s) (m == lid) (ne_eqb o s ne))

  other_lid : (o m : ℕ) → m ≢ lid → level new o m ≡ level now o m
  other_lid o m ne = changed o m ∙ cond-false ((o == s) && (m == lid)) (Some n) (level now o m) (and_right (o == s) (m == lid) (ne_eqb m lid ne))

  pub path_leaves : (edge : ℕ × ℕ) → level_paths_over t e new lane edge + times_along edge (route t e s lid).channels ≡ level_paths_over t e now lane edge
  path_leaves edge =
      sum_falls (λ m. level_paths_to t e now lane edge m) (λ m. level_paths_to t e new lane edge m) (lids_of t) k lid (times_along edge (route t e s lid).channels) at
      (λ j there. ascending_once (lids_of t) (subst IsStrictlyIncreasing fits.in_use fits.whole.ascending) j k lid there at)
      (λ m ne. same_below (length t.switches) (is_level_over t e now lane edge m) (is_level_over t e new lane edge m) (λ o less. ap (λ l. option_eq nat_eq l (Some lane) && contains_edge edge (route t e o m).channels) (other_lid o m ne)))
      here
    where
      falls : level_paths_to t e new lane edge lid + one_if (is_level_over t e now lane edge lid s) ≡ level_paths_to t e now lane edge lid
      falls =
          count_falls (length t.switches) s (is_level_over t e now lane edge lid) (is_level_over t e new lane edge lid) low
          (λ o ne. ap (λ l. option_eq nat_eq l (Some lane) && contains_edge edge (route t e o lid).channels) (other_switch o lid ne))
          (off_if (level new s lid) n lane (contains_edge edge (route t e s lid).channels) given other)

      here : level_paths_to t e new lane edge lid + times_along edge (route t e s lid).channels ≡ level_paths_to t e now lane edge lid
      here =
          omega (
            arith,
            falls,
            path_once t e good tables edge s lid,
            ap one_if (on_if (level now s lid) lane (contains_edge edge (route t e s lid).channels) on),
          )

-- ---- paths are counted

module _ (t : Topology) (e : Entries) (l : LaneTables) (lane lid s : ℕ) (edge : ℕ × ℕ) where
  -- one more switch, whose path is on the lane
  pub path_counted : IsWellFormed t → AreLeastWeightTables t e → level l s lid ≡ Some lane →
      count_below (s + 1) (is_level_over t e l lane edge lid) ≡ count_below s (is_level_over t e l lane edge lid) + times_along edge (route t e s lid).channels
  path_counted good tables on =
      omega (
        arith,
        count_below_more s (is_level_over t e l lane edge lid),
        path_once t e good tables edge s lid,
        ap one_if (on_if (level l s lid) lane (contains_edge edge (route t e s lid).channels) on),
      )

  -- or isn't
  pub no_path : option_eq nat_eq (level l s lid) (Some lane) ≡ false → count_below (s + 1) (is_level_over t e l lane edge lid) ≡ count_below s (is_level_over t e l lane edge lid)
  no_path off =
      omega (arith, count_below_more s (is_level_over t e l lane edge lid), ap one_if (and_left (option_eq nat_eq (level l s lid) (Some lane)) (contains_edge edge (route t e s lid).channels) off))

  pub paths_to_few : level_paths_to t e l lane edge lid ≤ length t.switches
  paths_to_few = count_below-le (length t.switches) (is_level_over t e l lane edge lid)
