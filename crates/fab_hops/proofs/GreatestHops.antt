-- The greatest of the counts so far.
use Rattle.std.proofs.Common.{◌≡◌, ℕ, ◌+◌, ◌<◌, ◌≤◌, ◌⊎◌, inl, inr, Option, Some, None, sym, ◌∙◌, ap, subst, arith, max}
use Rattle.std.proofs.lemmas.Bool.{cases_lt}
use Rattle.std.proofs.lemmas.Option.{none-some, same_Some}

-- one of the first counts, or 0
abbrev pub IsAttained : (ℕ → Option ℕ) → ℕ → ℕ → Type 0
IsAttained counts count greatest = (greatest ≡ 0) ⊎ ((far : ℕ) × (far < count) × (counts far ≡ Some greatest))

abbrev pub IsGreatest : (ℕ → Option ℕ) → ℕ → ℕ → Type 0
IsGreatest counts count greatest = (other m : ℕ) → other < count → counts other ≡ Some m → m ≤ greatest

module _ (counts : ℕ → Option ℕ) (count index greatest : ℕ) (low : index < count) (attained : IsAttained counts count greatest) (most : IsGreatest counts index greatest) where
  module _ (hops : ℕ) (is : counts index ≡ Some hops) where
    pub attained_more : IsAttained counts count (max hops greatest)
    attained_more = elim (cases_lt greatest hops) [
      | inl less ↦ (let same : hops ≡ max hops greatest = omega (arith, less) in inr (index, low, is ∙ ap Some same))
      | inr more ↦ (let same : greatest ≡ max hops greatest = omega (arith, more) in subst (λ n. IsAttained counts count n) same attained)
    ]

    pub greatest_more : IsGreatest counts (index + 1) (max hops greatest)
    greatest_more other m below e = elim (cases_lt other index) [
      | inl less ↦ (let before : m ≤ greatest = most other m less e in omega (arith, before))
      | inr at ↦
          (let here : other ≡ index = omega (arith, at, below) in
          let same : m ≡ hops = same_Some m hops (sym e ∙ ap counts here ∙ is) in
          omega (arith, same))
    ]

  pub greatest_still : counts index ≡ None → IsGreatest counts (index + 1) greatest
  greatest_still none other m below e = elim (cases_lt other index) [
    | inl less ↦ most other m less e
    | inr at ↦ (let here : other ≡ index = omega (arith, at, below) in absurd (none-some m (sym none ∙ ap counts (sym here) ∙ e)))
  ]
