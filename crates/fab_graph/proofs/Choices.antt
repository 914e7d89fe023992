-- Of finitely many numbers of which a decided fact holds, there is a least by (cost, number).
use Rattle.std.proofs.Common.{◌≡◌, ℕ, zero, suc, ◌<◌, ◌≤◌, ◌⊎◌, inl, inr, sym, ap, subst, arith}
use Rattle.std.proofs.lemmas.Bool.{cases_lt}
use Rattle.fab_graph.specs.Least.{IsNotAfter}
use Rattle.fab_graph.proofs.Decided.{Decided}

-- the least by (cost, number) of those below a bound of which a property holds
abbrev pub LeastChoice : (ℕ → ℕ) → (ℕ → Type 0) → ℕ → Type 0
LeastChoice cost P n = (m : ℕ) × (m < n) × P m × ((k : ℕ) → k < n → P k → IsNotAfter cost m k)

module _ (cost : ℕ → ℕ) (P : ℕ → Type 0) where
  itself : (n k : ℕ) → k ≡ n → IsNotAfter cost n k
  itself n k e = inr (ap cost (sym e), omega (arith, e))

  after_less : (n m k : ℕ) → cost n < cost m → IsNotAfter cost m k → IsNotAfter cost n k
  after_less n m k less (inl x) = inl (omega (arith, less, x))
  after_less n m k less (inr x) = inl (omega (arith, less, x.0))

  at_last : (n m k : ℕ) → m < n → cost m ≤ cost n → k ≡ n → IsNotAfter cost m k
  at_last n m k h less e = subst (λ j. IsNotAfter cost m j) (sym e) (by_cost (cases_lt (cost m) (cost n)))
    where
      by_cost : (cost m < cost n) ⊎ (cost n ≤ cost m) → IsNotAfter cost m n
      by_cost (inl x) = inl x
      by_cost (inr x) = inr (omega (arith, x, less), omega (arith, h))

  with_last : (n : ℕ) → P n → (f : LeastChoice cost P n) → (cost n < cost f.0) ⊎ (cost f.0 ≤ cost n) → LeastChoice cost P (suc n)
  with_last n p f (inl less) = (
    n,
    omega arith,
    p,
    λ k h q. elim (cases_lt k n) [
      | inl below ↦ after_less n f.0 k less (f.3 k below q)
      | inr more ↦ itself n k (omega (arith, h, more))
    ],
  )
  with_last n p f (inr more) = (
    f.0,
    omega (arith, f.1),
    f.2,
    λ k h q. elim (cases_lt k n) [
      | inl below ↦ f.3 k below q
      | inr past ↦ at_last n f.0 k f.1 more (omega (arith, h, past))
    ],
  )

  pub least_choice : ((k : ℕ) → Decided (P k)) → (n : ℕ) → LeastChoice cost P n ⊎ ((k : ℕ) → k < n → ¬ P k)
  least_choice decide zero = inr (λ k h p. omega (arith, h))
  least_choice decide (suc n) = go (decide n) (least_choice decide n)
    where
      go : Decided (P n) → LeastChoice cost P n ⊎ ((k : ℕ) → k < n → ¬ P k) → LeastChoice cost P (suc n) ⊎ ((k : ℕ) → k < suc n → ¬ P k)
      go (inl p) (inl f) = inl (with_last n p f (cases_lt (cost n) (cost f.0)))
      go (inl p) (inr none) = inl (
        n,
        omega arith,
        p,
        λ k h q. elim (cases_lt k n) [
          | inl below ↦ absurd (none k below q)
          | inr more ↦ itself n k (omega (arith, h, more))
        ],
      )
      go (inr refuted) (inl f) = inl (
        f.0,
        omega (arith, f.1),
        f.2,
        λ k h q. elim (cases_lt k n) [
          | inl below ↦ f.3 k below q
          | inr more ↦ (let same : k ≡ n = omega (arith, h, more) in absurd (refuted (subst P same q)))
        ],
      )
      go (inr refuted) (inr none) = inr (λ k h q. elim (cases_lt k n) [
        | inl below ↦ none k below q
        | inr more ↦ (let same : k ≡ n = omega (arith, h, more) in refuted (subst P same q))
      ])
