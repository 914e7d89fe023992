-- Where weights are positive, a walk of least weight repeats no switch, so distances are small.
use Rattle.std.proofs.Common.{◌≡◌, ℕ, ◌+◌, ◌*◌, ◌<◌, ◌≤◌, Bool, true, false, eqb, List, [], ◌∷◌, length, refl, sym, subst, arith, ◌||◌}
use Rattle.std.specs.List.{list_any, IsDistinct, AllByRecursion}
use Rattle.std.proofs.Math.Nat.{mul-le-mul_right}
use Rattle.std.proofs.lemmas.Bool.{ne_eqb, eqb-true, false≢true}
use Rattle.std.proofs.lemmas.List.Elements.{All-contains}
use Rattle.std.proofs.lemmas.List.Sums.{sum_by-cons, sum_by-le}
use Rattle.std.proofs.lemmas.Map.Steps.{length-le_from_distinct_below}
use Rattle.std.proofs.lemmas.Map.Keys.{IsDistinct-cons}
use Rattle.std.proofs.lemmas.Option.{slice_get_within}
use Rattle.fab_model.specs.declared.rows.ChannelRow.{ChannelRow}
use Rattle.fab_model.specs.Topology.{Topology}
use Rattle.fab_model.specs.WellFormed.{IsWellFormed}
use Rattle.fab_tables.specs.Route.{tip}
use Rattle.fab_tables.proofs.Verdicts.CertifiedLaws.{contains_of}
use Rattle.fab_sssp.specs.LeastWeight.{weight_along, IsLeastWalk, IsDistance}
use Rattle.fab_sssp.proofs.Tables.OneTable.{one_distance}
use Rattle.fab_sssp.proofs.Walks.LeastWalks.{least_rest}

module _ (t : Topology) (weight : ℕ → ℕ) (to : ℕ) (good : IsWellFormed t) (positive : (c : ℕ) → c < length t.channels → 0 < weight c) where
  -- the switches that were passed lie farther off
  abbrev ArePassed : ℕ → List ℕ → Type 0
  ArePassed m [] = Unit {0}
  ArePassed m (q ∷ qs) = (q < length t.switches) × ((n : ℕ) × (m < n) × IsDistance t weight q to n) × ArePassed m qs

  passed_still : (m n : ℕ) (qs : List ℕ) → n < m → ArePassed m qs → ArePassed n qs
  passed_still m n [] h p = tt
  passed_still m n (q ∷ qs) h p = (p.0, (p.1.0, omega (arith, h, p.1.1), p.1.2), passed_still m n qs h p.2)

  is_new : (s m : ℕ) (qs : List ℕ) → IsDistance t weight s to m → ArePassed m qs → AllByRecursion (λ q. eqb s q ≡ false) qs
  is_new s m [] far p = tt
  is_new s m (q ∷ qs) far p =
      (ne_eqb s q (λ same. omega (arith, p.1.1, one_distance t weight s to m p.1.0 far (subst (λ x. IsDistance t weight x to p.1.0) (sym same) p.1.2))), is_new s m qs far p.2)

  all_below : (m : ℕ) (qs : List ℕ) → ArePassed m qs → (x : ℕ) → list_any (eqb x) qs ≡ true → x < length t.switches
  all_below m [] p x h = absurd (false≢true h)
  all_below m (q ∷ qs) p x h = this_or_later (all_below m qs p.2 x) (eqb x q) refl h
    where
      this_or_later : (list_any (eqb x) qs ≡ true → x < length t.switches) → (b : Bool) → eqb x q ≡ b → (b || list_any (eqb x) qs) ≡ true → x < length t.switches
      this_or_later go true is y = omega (arith, eqb-true x q is, p.0)
      this_or_later go false is y = go y

  few_more : (cs : List ℕ) (s : ℕ) (qs : List ℕ) → IsLeastWalk t weight s to cs → IsDistinct eqb qs → ArePassed (weight_along weight cs) qs → length qs + length cs ≤ length t.switches
  few_more [] s qs least distinct p = omega (arith, length-le_from_distinct_below qs (length t.switches) distinct (all_below 0 qs p))
  few_more (c ∷ rest) s qs least distinct p =
      let tail : least.leads.0.tail.0 < length t.switches = All-contains (λ (r : ChannelRow). r.tail.0 < length t.switches) t.channels least.leads.0 good.channel_tails (contains_of t.channels c least.leads.0 least.leads.1) in
      let less : weight_along weight rest < weight_along weight (c ∷ rest) = omega (arith, sum_by-cons weight c rest, positive c (slice_get_within t.channels c least.leads.0 least.leads.1)) in
      omega (
        arith,
        few_more rest (tip t c) (s ∷ qs) (least_rest t weight s to c rest least)
            (IsDistinct-cons eqb s qs (is_new s (weight_along weight (c ∷ rest)) qs (c ∷ rest, least, refl) p) distinct)
            (omega (arith, tail, least.leads.2), (weight_along weight (c ∷ rest), less, (c ∷ rest, least, refl)), passed_still (weight_along weight (c ∷ rest)) (weight_along weight rest) qs less p),
      )

  pub least_is_short : (s : ℕ) (cs : List ℕ) → IsLeastWalk t weight s to cs → length cs ≤ length t.switches
  unfolding IsDistinct
  least_is_short s cs least = omega (arith, few_more cs s [] least tt tt)

  -- a distance is at most the greatest weight for each switch
  pub distance_small : (s n greatest : ℕ) → IsDistance t weight s to n → ((c : ℕ) → weight c ≤ greatest) → n ≤ length t.switches * greatest
  distance_small s n greatest far most =
      omega (arith, far.2, sum_by-le weight greatest far.0 (λ k d h. most _), mul-le-mul_right greatest (least_is_short s far.0 far.1))
