-- The centre order of three switches in a row is second, first, third.
use Rattle.std.proofs.Common.{◌≡◌, ℕ, zero, suc, ◌<◌, ◌≤◌, List, [], ◌∷◌, inl, inr, refl, subst, arith, Contains}
use Rattle.std.specs.Prelude.{IfSome, slice_index_or}
use Rattle.fab_model.specs.Connected.{AreConnected}
use Rattle.fab_hops.specs.HopCounts.{IsHopCount, hop_count}
use Rattle.fab_hops.specs.Centres.{IsEccentricity, IsNearerCentre, IsCentreOrder}
use Rattle.fab_hops.proofs.Kept.{count_told, count_kept}
use Rattle.fab_hops.proofs.Examples.Row.{row, row_hops, row_are_hops, walks_within, first_to_second, second_to_third}

-- no count of the switch is greater
abbrev AreAtMost : ℕ → ℕ → Type 0
AreAtMost s n = (other : ℕ) → other < 3 → IfSome (hop_count row_hops s other) (λ m. m ≤ n)

eccentricity : (s n far : ℕ) → s < 3 → IsHopCount row s far n → AreAtMost s n → IsEccentricity row s n
eccentricity s n far low count most = record {
  attained = (far, count);
  greatest = λ other m c.
      let high : other < 3 = walks_within m s other low c.holds in
      subst (λ o. IfSome o (λ k. k ≤ n)) (count_kept row row_hops row_are_hops s other m low high c) (most other high);
}

first_most : AreAtMost 0 2
first_most zero h = omega arith
first_most (suc zero) h = omega arith
first_most (suc (suc zero)) h = omega arith
first_most (suc (suc (suc k))) h = absurd (omega (arith, h))

second_most : AreAtMost 1 1
second_most zero h = omega arith
second_most (suc zero) h = omega arith
second_most (suc (suc zero)) h = omega arith
second_most (suc (suc (suc k))) h = absurd (omega (arith, h))

third_most : AreAtMost 2 2
third_most zero h = omega arith
third_most (suc zero) h = omega arith
third_most (suc (suc zero)) h = omega arith
third_most (suc (suc (suc k))) h = absurd (omega (arith, h))

of_first : IsEccentricity row 0 2
of_first = eccentricity 0 2 2 (omega arith) (count_told row row_hops row_are_hops 0 2 2 (omega arith) (omega arith) refl) first_most

of_second : IsEccentricity row 1 1
of_second = eccentricity 1 1 0 (omega arith) (count_told row row_hops row_are_hops 1 0 1 (omega arith) (omega arith) refl) second_most

of_third : IsEccentricity row 2 2
of_third = eccentricity 2 2 0 (omega arith) (count_told row row_hops row_are_hops 2 0 2 (omega arith) (omega arith) refl) third_most

abbrev order : List ℕ
order = 1 ∷ 0 ∷ 2 ∷ []

joined : (other : ℕ) → other < 3 → AreConnected row 0 other
joined zero h = (0, refl)
joined (suc zero) h = (1, (1, first_to_second, refl))
joined (suc (suc zero)) h = (2, (1, first_to_second, (2, second_to_third, refl)))
joined (suc (suc (suc k))) h = absurd (omega (arith, h))

listed : (other : ℕ) → other < 3 → Contains order other
listed zero h = (1, omega arith, refl)
listed (suc zero) h = (0, omega arith, refl)
listed (suc (suc zero)) h = (2, omega arith, refl)
listed (suc (suc (suc k))) h = absurd (omega (arith, h))

within : (other k : ℕ) → k < 3 → slice_index_or order k other ≡ other → other < 3
within other zero h e = omega (arith, e)
within other (suc zero) h e = omega (arith, e)
within other (suc (suc zero)) h e = omega (arith, e)
within other (suc (suc (suc k))) h e = absurd (omega (arith, h))

ordered : (i j d : ℕ) → i < j → j < 3 → IsNearerCentre row (slice_index_or order i d) (slice_index_or order j d)
ordered zero (suc zero) d less low = record { near = 1; far = 2; first_has = of_second; second_has = of_first; before = inl (omega arith) }
ordered zero (suc (suc zero)) d less low = record { near = 1; far = 2; first_has = of_second; second_has = of_third; before = inl (omega arith) }
ordered (suc zero) (suc (suc zero)) d less low = record { near = 2; far = 2; first_has = of_first; second_has = of_third; before = inr (refl, omega arith) }
ordered i zero d less low = absurd (omega (arith, less))
ordered (suc i) (suc zero) d less low = absurd (omega (arith, less))
ordered (suc (suc i)) (suc (suc zero)) d less low = absurd (omega (arith, less))
ordered i (suc (suc (suc j))) d less low = absurd (omega (arith, low))

pub second_first_third : IsCentreOrder row 0 (1 ∷ 0 ∷ 2 ∷ [])
second_first_third = record {
  component = λ other. (λ has. joined other (within other has.0 has.1 has.2), λ w. listed other (walks_within w.0 0 other (omega arith) w.1));
  ordered = ordered;
}
