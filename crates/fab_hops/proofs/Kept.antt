-- What a table of hop counts tells: each count that it keeps is the hop count, and each hop count is kept.
use Rattle.std.proofs.Common.{◌≡◌, ℕ, ◌<◌, length, Option, Some, None, refl, sym, ap, subst, inl, inr, ◌⊎◌, arith}
use Rattle.std.specs.Prelude.{MatchOption}
use Rattle.fab_model.specs.Topology.{Topology}
use Rattle.fab_model.specs.Connected.{AreConnected}
use Rattle.fab_model.specs.WellFormed.{IsWellFormed}
use Rattle.fab_hops.specs.HopCounts.{IsHopCount, HopTable, AreHops, hop_count}
use Rattle.fab_hops.specs.Centres.{IsGreatestHop, IsEccentricity}
use Rattle.fab_hops.proofs.HopLaws.{one_hop_count}
use Rattle.fab_hops.proofs.HopWalks.{no_hops, connected_within}

module _ (t : Topology) (h : HopTable) (are : AreHops t h) where
  -- a count that is kept is the hop count
  pub count_told : (from to n : ℕ) → from < length t.switches → to < length t.switches → hop_count h from to ≡ Some n → IsHopCount t from to n
  count_told from to n low high e = subst (λ o. MatchOption o (¬ AreConnected t from to) (λ m. IsHopCount t from to m)) e (are.each from to low high)

  kept_as : (from to n : ℕ) (o : Option ℕ) → MatchOption o (¬ AreConnected t from to) (λ m. IsHopCount t from to m) → IsHopCount t from to n → o ≡ Some n
  kept_as from to n None none count = absurd (none (n, count.holds))
  kept_as from to n (Some m) told count = ap Some (one_hop_count t from to m n told count)

  -- a hop count is kept
  pub count_kept : (from to n : ℕ) → from < length t.switches → to < length t.switches → IsHopCount t from to n → hop_count h from to ≡ Some n
  count_kept from to n low high count = kept_as from to n (hop_count h from to) (are.each from to low high) count

  -- the greatest count of a switch is its eccentricity
  pub is_eccentricity : IsWellFormed t → (s n : ℕ) → s < length t.switches → IsGreatestHop h s n → IsEccentricity t s n
  is_eccentricity good s n low is = record {
    attained = attained is.attained;
    greatest = λ other m count.
        let high : other < length t.switches = connected_within t good s other (m, count.holds) low in
        is.greatest other m (omega (arith, high, are.switches)) (count_kept s other m low high count);
  }
    where
      attained : (n ≡ 0) ⊎ ((far : ℕ) × (far < h.switches) × (hop_count h s far ≡ Some n)) → (far : ℕ) × IsHopCount t s far n
      attained (inl zero) = (s, subst (λ m. IsHopCount t s s m) (sym zero) (no_hops t s s refl))
      attained (inr far) = (far.0, count_told s far.0 n low (omega (arith, far.1, are.switches)) far.2)
