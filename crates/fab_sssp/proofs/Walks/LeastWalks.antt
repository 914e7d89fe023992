-- Walks of least weight: from the first channel's tip on they are of least weight too.
use Rattle.std.proofs.Common.{◌≡◌, ℕ, suc, ◌+◌, ◌*◌, ◌≤◌, List, [], ◌∷◌, length, sym, ap, subst, inl, inr, arith}
use Rattle.std.specs.Prelude.{sum_by}
use Rattle.std.proofs.Math.Nat.{mul-le-mul_right}
use Rattle.std.proofs.lemmas.Bool.{cases_lt}
use Rattle.std.proofs.lemmas.List.Sums.{sum_by-cons}
use Rattle.fab_model.specs.Topology.{Topology}
use Rattle.fab_model.specs.Connected.{LeadsAlong}
use Rattle.fab_tables.specs.Route.{tip, tip_of_row}
use Rattle.fab_sssp.specs.LeastWeight.{IsLeastWalk}

module _ (t : Topology) (weight : ℕ → ℕ) (s to c : ℕ) (rest : List ℕ) (least : IsLeastWalk t weight s to (c ∷ rest)) where
  -- the tip of the first channel
  tip_is : tip t c ≡ least.leads.0.tip.0
  tip_is = ap tip_of_row least.leads.1

  -- the channel before any walk from its tip
  after_first : (others : List ℕ) → LeadsAlong t (tip t c) others to → LeadsAlong t s (c ∷ others) to
  after_first others leads = (least.leads.0, least.leads.1, least.leads.2, subst (λ x. LeadsAlong t x others to) tip_is leads)

  pub least_rest : IsLeastWalk t weight (tip t c) to rest
  least_rest = record {
    leads = subst (λ x. LeadsAlong t x rest to) (sym tip_is) least.leads.3;
    least = λ others leads. omega (arith, least.least (c ∷ others) (after_first others leads), sum_by-cons weight c rest, sum_by-cons weight c others);
  }

  -- another walk of least weight from the tip does as well
  pub least_first : (others : List ℕ) → IsLeastWalk t weight (tip t c) to others → IsLeastWalk t weight s to (c ∷ others)
  least_first others also = record {
    leads = after_first others also.leads;
    least = λ xs leads. omega (arith, least.least xs leads, also.least rest least_rest.leads, sum_by-cons weight c rest, sum_by-cons weight c others);
  }

-- Where the weights of channels are nearly the same, a walk of least weight has least channels.
pub sum_by-ge : (f : ℕ → ℕ) (m : ℕ) (xs : List ℕ) → ((x : ℕ) → m ≤ f x) → length xs * m ≤ sum_by f xs
sum_by-ge f m [] low = omega arith
sum_by-ge f m (x ∷ xs) low = omega (arith, sum_by-cons f x xs, low x, sum_by-ge f m xs low)

-- with start weight w = 1 + s * t * l, and at most l * t more on each channel
pub fewer : (k n s t l w : ℕ) → w ≡ 1 + s * t * l → k * w ≤ n * (w + l * t) → n ≤ s → k ≤ n
fewer k n s t l w is h low = elim (cases_lt n k) [
  | inl more ↦
      (let a : suc n * w ≤ k * w = mul-le-mul_right w more in
      let b : n * (l * t) ≤ s * (l * t) = mul-le-mul_right (l * t) low in
      absurd (omega (arith, a, b, h, is)))
  | inr less ↦ less
]
