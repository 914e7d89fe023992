-- Sums of a number for each switch below a bound, and of numbers with weights of which one is moved to another switch.
use Rattle.std.proofs.Common.{◌≡◌, ◌≢◌, ℕ, zero, suc, ◌+◌, ◌*◌, ◌<◌, ◌≤◌, List, length, get_or, set, refl, sym, ◌∙◌, ap, inl, inr, arith, length-set, get_or-set_same, get_or-set_other}
use Rattle.std.proofs.lemmas.Bool.{cases_lt}
use Rattle.fab_sssp.specs.Passing.{sum_below}

pub sum_below_same : (f g : ℕ → ℕ) (n : ℕ) → ((k : ℕ) → k < n → f k ≡ g k) → sum_below f n ≡ sum_below g n
sum_below_same f g zero same = refl
sum_below_same f g (suc n) same = omega (arith, sum_below_same f g n (λ k h. same k (omega (arith, h))), same n (omega arith))

-- two functions that differ at one place
pub sum_below_one : (f g : ℕ → ℕ) (n i : ℕ) → i < n → ((k : ℕ) → k < n → k ≢ i → f k ≡ g k) → sum_below f n + g i ≡ sum_below g n + f i
sum_below_one f g zero i low same = absurd (omega (arith, low))
sum_below_one f g (suc n) i low same = elim (cases_lt i n) [
  | inl less ↦ omega (arith, sum_below_one f g n i less (λ k h other. same k (omega (arith, h)) other), same n (omega arith) (λ e. omega (arith, e, less)))
  | inr past ↦
      (let e : i ≡ n = omega (arith, low, past) in
      omega (arith, sum_below_same f g n (λ k h. same k (omega (arith, h)) (λ x. omega (arith, x, e, h))), ap f e, ap g e))
]

pub one_of_sum : (f : ℕ → ℕ) (n i : ℕ) → i < n → f i ≤ sum_below f n
one_of_sum f zero i low = absurd (omega (arith, low))
one_of_sum f (suc n) i low = elim (cases_lt i n) [
  | inl less ↦ omega (arith, one_of_sum f n i less)
  | inr past ↦ (let e : i ≡ n = omega (arith, low, past) in omega (arith, ap f e))
]

pub nothing_below : (f : ℕ → ℕ) (n : ℕ) → ((k : ℕ) → k < n → f k ≡ 0) → sum_below f n ≡ 0
nothing_below f zero none = refl
nothing_below f (suc n) none = omega (arith, nothing_below f n (λ k h. none k (omega (arith, h))), none n (omega arith))

-- the sum of the numbers of a list, each as often as it weighs
abbrev pub weighed_sum : (ℕ → ℕ) → List ℕ → ℕ → ℕ
weighed_sum w xs n = sum_below (λ k. get_or xs k 0 * w k) n

-- what stands at one place is moved to another
abbrev pub moved : List ℕ → ℕ → ℕ → List ℕ
moved xs from to = set (set xs from 0) to (get_or (set xs from 0) to 0 + get_or xs from 0)

module _ (xs : List ℕ) (n from to : ℕ) (each : length xs ≡ n) (low : from < n) (low_to : to < n) (other : to ≢ from) where
  abbrev left : List ℕ
  left = set xs from 0

  pub moved_from : get_or (moved xs from to) from 0 ≡ 0
  moved_from = get_or-set_other left to from (get_or left to 0 + get_or xs from 0) 0 (λ e. other (sym e)) ∙ get_or-set_same xs from 0 0 (omega (arith, low, each))

  pub moved_elsewhere : (k : ℕ) → k ≢ from → k ≢ to → get_or (moved xs from to) k 0 ≡ get_or xs k 0
  moved_elsewhere k a b = get_or-set_other left to k (get_or left to 0 + get_or xs from 0) 0 b ∙ get_or-set_other xs from k 0 0 a

  pub moved_sum : (w : ℕ → ℕ) → weighed_sum w (moved xs from to) n + get_or xs from 0 * w from ≡ weighed_sum w xs n + get_or xs from 0 * w to
  moved_sum w = omega (arith, taken, put, gone, come)
    where
      taken : weighed_sum w left n + get_or xs from 0 * w from ≡ weighed_sum w xs n + get_or left from 0 * w from
      taken = sum_below_one (λ k. get_or left k 0 * w k) (λ k. get_or xs k 0 * w k) n from low (λ k h x. ap (λ m. m * w k) (get_or-set_other xs from k 0 0 x))

      put : weighed_sum w (moved xs from to) n + get_or left to 0 * w to ≡ weighed_sum w left n + get_or (moved xs from to) to 0 * w to
      put = sum_below_one (λ k. get_or (moved xs from to) k 0 * w k) (λ k. get_or left k 0 * w k) n to low_to (λ k h x. ap (λ m. m * w k) (get_or-set_other left to k (get_or left to 0 + get_or xs from 0) 0 x))

      gone : get_or left from 0 * w from ≡ 0
      gone = ap (λ m. m * w from) (get_or-set_same xs from 0 0 (omega (arith, low, each))) ∙ omega arith

      come : get_or (moved xs from to) to 0 * w to ≡ get_or left to 0 * w to + get_or xs from 0 * w to
      come = ap (λ m. m * w to) (get_or-set_same left to (get_or left to 0 + get_or xs from 0) 0 (omega (arith, low_to, each, length-set xs from 0))) ∙ omega arith

  pub moved_all : sum_below (λ k. get_or (moved xs from to) k 0) n ≡ sum_below (λ k. get_or xs k 0) n
  moved_all = omega (arith, moved_sum (λ k. 1), all_once (moved xs from to), all_once xs)
    where
      all_once : (ys : List ℕ) → weighed_sum (λ k. 1) ys n ≡ sum_below (λ k. get_or ys k 0) n
      all_once ys = sum_below_same (λ k. get_or ys k 0 * 1) (λ k. get_or ys k 0) n (λ k h. omega arith)
