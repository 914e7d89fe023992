-- The rows of a table of costs, and what they say: each is the costs on the way to a switch, and there are no others.
use Rattle.std.proofs.Common.{◌≡◌, ℕ, zero, suc, ◌+◌, ◌<◌, ◌≤◌, ◌⊎◌, inl, inr, List, [], ◌∷◌, ◌++◌, length, map, refl, sym, ◌∙◌, ap, subst, arith, Contains, Option, Some, None}
use Rattle.std.specs.Prelude.{slice_index_or}
use Rattle.std.proofs.lemmas.Bool.{cases_lt}
use Rattle.std.proofs.lemmas.List.{length_push, get_or_append_left, get_or_push, get_or_past}
use Rattle.std.proofs.lemmas.List.Elements.{All-contains}
use Rattle.fab_graph.specs.Walks.{Walk}
use Rattle.fab_graph.specs.Least.{IsLeast}
use Rattle.fab_graph.proofs.Graphs.{one_least}
use Rattle.fab_model.specs.declared.rows.SwitchId.{SwitchId}
use Rattle.fab_model.specs.declared.rows.ChannelRow.{ChannelRow}
use Rattle.fab_model.specs.Topology.{Topology}
use Rattle.fab_model.specs.WellFormed.{IsWellFormed}
use Rattle.fab_tables.proofs.Joined.Tips.{tip_below}
use Rattle.fab_updn.specs.declared.costs.Cost.{Cost}
use Rattle.fab_updn.specs.declared.costs.Cost.TheVariants.{Below, Above, Missing}
use Rattle.fab_updn.specs.Ranks.{HasSmallerKey, StepsUp, StepsDown}
use Rattle.fab_updn.specs.Costs.{IsDown, LeadsDown, IsCostAbove, AreCosts}
use Rattle.fab_updn.specs.Found.{count_of, cost_at, IsCostOf, AreCostsTo, IsKeyOrder}
use Rattle.fab_updn.proofs.Sequences.{key-trans, key-self, switch_at, IsAmong, IsSequence, upward, before, last_or_before}

-- so many rows are the costs on the way to their switches
pub record AreCostRows (t : Topology) (ranks : List ℕ) (count : ℕ) (table : List (List Cost)) : Type 0 where
  pub whole : length table ≡ count
  pub each : (to : ℕ) → to < count → AreCostsTo t ranks to (slice_index_or table to [])

pub no_rows : (t : Topology) (ranks : List ℕ) → AreCostRows t ranks 0 []
no_rows t ranks = record { whole = refl; each = λ to low. absurd (omega (arith, low)) }

pub one_row_more : (t : Topology) (ranks : List ℕ) (count : ℕ) (table : List (List Cost)) (row : List Cost) → AreCostRows t ranks count table → AreCostsTo t ranks count row → AreCostRows t ranks (count + 1) (table ++ row ∷ [])
one_row_more t ranks count table row are next = record {
  whole = length_push table row ∙ ap (λ n. n + 1) are.whole;
  each = λ to low. elim (cases_lt to count) [
    | inl less ↦ subst (λ (xs : List Cost). AreCostsTo t ranks to xs) (sym (get_or_append_left table (row ∷ []) [] to (omega (arith, less, are.whole)))) (are.each to less)
    | inr last ↦
        (let same : count ≡ to = omega (arith, low, last) in
        subst (λ (xs : List Cost). AreCostsTo t ranks to xs) (sym (get_or_push table row [] to (are.whole ∙ same))) (subst (λ n. AreCostsTo t ranks n row) same next))
  ];
}

pub map_push : {A B : Type 0} (f : A → B) (xs : List A) (x : A) → map f (xs ++ x ∷ []) ≡ map f xs ++ f x ∷ []
map_push f [] x = refl
map_push f (y ∷ ys) x = ap (λ (zs : List _). f y ∷ zs) (map_push f ys x)

-- ---- the kept costs are the costs

module _ (t : Topology) (good : IsWellFormed t) (ranks : List ℕ) (to : ℕ) (costs : List Cost) (are : AreCostsTo t ranks to costs) where
  abbrev kept : ℕ → Option ℕ
  kept s = count_of (cost_at costs s)

  tail_below : (row : ChannelRow) → Contains t.channels row → row.tail.0 < length t.switches
  tail_below row has = All-contains (λ (r : ChannelRow). r.tail.0 < length t.switches) t.channels row good.channel_tails has

  below_or_past : (s : ℕ) → (s < length t.switches) ⊎ (length t.switches ≤ s)
  below_or_past s = cases_lt s (length t.switches)

  no_down : (s n : ℕ) → to < length t.switches → length t.switches ≤ s → Walk (StepsDown t ranks) n s to → ⊥
  no_down s zero low past w = omega (arith, low, past, w)
  no_down s (suc n) low past w = omega (arith, past, w.1.2, tail_below w.1.0 w.1.1)

  down_kept : (s n : ℕ) (c : Cost) → IsCostOf t ranks to kept s c → IsDown t ranks to s n → count_of c ≡ Some n
  down_kept s n (Below m) x d = ap (λ k. Some k) (one_least (λ k. Walk (StepsDown t ranks) k s to) m n x d)
  down_kept s n (Above m) x d = absurd (x.2 (n, d.holds))
  down_kept s n Missing x d = absurd (x.0 (n, d.holds))

  up_kept : (s n : ℕ) (c : Cost) → IsCostOf t ranks to kept s c → ¬ LeadsDown t ranks to s → IsLeast (λ m. IsCostAbove t ranks kept s m) n → count_of c ≡ Some (suc n)
  up_kept s n (Below m) x not d = absurd (not (m, x.holds))
  up_kept s n (Above m) x not d = ap (λ k. Some k) (x.1 ∙ ap (λ k. suc k) (one_least (λ k. IsCostAbove t ranks kept s k) x.0 n x.3 d))
  up_kept s n Missing x not d = absurd (x.1 n d.holds)

  none_kept : (s : ℕ) (c : Cost) → IsCostOf t ranks to kept s c → ¬ LeadsDown t ranks to s → ((n : ℕ) → ¬ IsCostAbove t ranks kept s n) → count_of c ≡ None
  none_kept s (Below m) x not none = absurd (not (m, x.holds))
  none_kept s (Above m) x not none = absurd (none x.0 x.3.holds)
  none_kept s Missing x not none = refl

  pub are_costs : to < length t.switches → AreCosts t ranks to kept
  are_costs low = record {
    down = λ s n d. elim (below_or_past s) [ inl within ↦ down_kept s n (cost_at costs s) (are.each s within) d | inr past ↦ absurd (no_down s n low past d.holds) ];
    up = λ s n no d. elim (below_or_past s) [ inl within ↦ up_kept s n (cost_at costs s) (are.each s within) no d | inr past ↦ absurd (omega (arith, past, d.holds.1.2, tail_below d.holds.1.0 d.holds.1.1)) ];
    none = λ s no none. elim (below_or_past s) [ inl within ↦ none_kept s (cost_at costs s) (are.each s within) no none | inr past ↦ ap count_of (get_or_past costs s Missing (omega (arith, past, are.whole))) ];
  }

  -- there are no other costs
  module _ (order : List SwitchId) (is : IsKeyOrder ranks order) (same_length : length ranks ≡ length t.switches) (cost : ℕ → Option ℕ) (others : AreCosts t ranks to cost) where
    sequence : IsSequence (HasSmallerKey ranks) (length ranks) order
    sequence = upward ranks order is

    by_case : (s : ℕ) → ((next : ℕ) → StepsUp t ranks s next → cost next ≡ kept next) → (c : Cost) → IsCostOf t ranks to kept s c → cost s ≡ count_of c
    by_case s above (Below n) x = others.down s n x
    by_case s above (Above n) x =
        others.up s x.0 x.2 (record { holds = (x.3.holds.0, x.3.holds.1, above x.3.holds.0 x.3.holds.1 ∙ x.3.holds.2); least = λ m y. x.3.least m (y.0, y.1, sym (above y.0 y.1) ∙ y.2) })
        ∙ ap (λ k. Some k) (sym x.1)
    by_case s above Missing x = others.none s x.0 (λ n y. x.1 n (y.0, y.1, sym (above y.0 y.1) ∙ y.2))

    first_ones : (k : ℕ) → k ≤ length order → (s : ℕ) → IsAmong order k s → cost s ≡ kept s
    first_ones zero few s x = absurd (omega (arith, x.early))
    first_ones (suc k) few s x = go (first_ones k (omega (arith, few))) (last_or_before order k s (record { place = x.place; early = omega (arith, x.early); within = x.within; there = x.there }))
      where
        within : k < length order
        within = omega (arith, few)

        go : ((y : ℕ) → IsAmong order k y → cost y ≡ kept y) → (s ≡ switch_at order k) ⊎ IsAmong order k s → cost s ≡ kept s
        go earlier (inr among) = earlier s among
        go earlier (inl same) = by_case s above (cost_at costs s) (are.each s low)
          where
            low : s < length t.switches
            low = omega (arith, same, sequence.low k within, same_length)

            above : (next : ℕ) → StepsUp t ranks s next → cost next ≡ kept next
            above next step = earlier next (before (HasSmallerKey ranks) (key-trans ranks) (key-self ranks) (length ranks) order sequence k next within next_low smaller)
              where
                smaller : HasSmallerKey ranks next (switch_at order k)
                smaller = subst (λ z. HasSmallerKey ranks z (switch_at order k)) step.3 (subst (λ z. HasSmallerKey ranks step.0.tip.0 z) (step.2 ∙ same) step.4)

                next_low : next < length ranks
                next_low = omega (arith, same_length, subst (λ z. z < length t.switches) step.3 (tip_below t good step.0 step.1))

    pub one_cost : (s : ℕ) → s < length t.switches → cost s ≡ kept s
    one_cost s low = first_ones (length order) (omega arith) s (sequence.all s (omega (arith, low, same_length)))
