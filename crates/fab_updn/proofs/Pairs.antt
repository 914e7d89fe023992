-- A pair is missing by the kept hop counts and costs exactly where it lacks a route.
use Rattle.std.proofs.Common.{◌≡◌, ℕ, zero, suc, ◌<◌, inl, inr, List, [], length, refl, sym, ◌∙◌, ap, subst, arith, Option, Some, None}
use Rattle.std.specs.Prelude.{slice_index_or, IsSome}
use Rattle.std.proofs.lemmas.Option.{none-some}
use Rattle.std.proofs.lemmas.List.Elements.{All-contains}
use Rattle.fab_graph.specs.Walks.{Walk}
use Rattle.fab_model.specs.declared.rows.ChannelRow.{ChannelRow}
use Rattle.fab_model.specs.Topology.{Topology}
use Rattle.fab_model.specs.Connected.{LeadsTo, AreConnected}
use Rattle.fab_model.specs.WellFormed.{IsWellFormed}
use Rattle.fab_hops.specs.HopCounts.{HopTable, AreHops, hop_count, IsHopCount}
use Rattle.fab_hops.proofs.HopWalks.{connected_have_count, connected_within}
use Rattle.fab_hops.proofs.Kept.{count_told, count_kept}
use Rattle.fab_updn.specs.declared.costs.Cost.{Cost}
use Rattle.fab_updn.specs.declared.costs.Cost.TheVariants.{Below, Above, Missing}
use Rattle.fab_updn.specs.UpDownPlans.{LacksRoute, IsFirstWithoutRoute}
use Rattle.fab_updn.specs.Found.{AreAllCosts, HasNoMissing, IsMissingPair, IsFirstMissing, costs_of, count_of, cost_at}
use Rattle.fab_updn.proofs.Nearest.{some_there}
use Rattle.fab_updn.proofs.CostRows.{are_costs, one_cost}

is_missing : (c : Cost) → count_of c ≡ None → c ≡ Missing
is_missing (Below n) e = absurd (none-some n (sym e))
is_missing (Above n) e = absurd (none-some n (sym e))
is_missing Missing e = refl

is_there : (o : Option ℕ) (n : ℕ) → o ≡ Some n → IsSome o
is_there None n e = absurd (none-some n e)
is_there (Some m) n e = refl

module _ (t : Topology) (good : IsWellFormed t) (h : HopTable) (hops : AreHops t h) (ranks : List ℕ) (whole : length ranks ≡ length t.switches) (table : List (List Cost)) (are : AreAllCosts t ranks table) where
  counted : (from to : ℕ) → from < length t.switches → to < length t.switches → AreConnected t from to → IsSome (hop_count h from to)
  counted from to low high joined =
      let count : (n : ℕ) × IsHopCount t from to n = connected_have_count t from to joined in
      is_there (hop_count h from to) count.0 (count_kept t h hops from to count.0 low high count.1)

  lacks : (from to : ℕ) → from < length t.switches → to < length t.switches → IsMissingPair h table from to → LacksRoute t ranks from to
  lacks from to low high x =
      let there : (n : ℕ) × (hop_count h from to ≡ Some n) = some_there (hop_count h from to) x.0 in
      ((there.0, (count_told t h hops from to there.0 low high there.1).holds), (costs_of table to, are_costs t good ranks to (slice_index_or table to []) (are.each to high) high, ap count_of x.1))

  missing : (from to : ℕ) → from < length t.switches → to < length t.switches → LacksRoute t ranks from to → IsMissingPair h table from to
  missing from to low high x = (
    counted from to low high x.0,
    is_missing (cost_at (slice_index_or table to []) from) (sym (one_cost t good ranks to (slice_index_or table to []) (are.each to high) are.order are.is_order whole x.1.0 x.1.1 from low) ∙ x.1.2),
  )

  -- a switch has a cost on the way to itself
  not_itself : (from to : ℕ) → from ≡ to → ¬ LacksRoute t ranks from to
  not_itself from to same x = none-some 0 (sym x.1.2 ∙ x.1.1.down from 0 (record { holds = same; least = λ m w. omega arith }))

  from_low : (from to : ℕ) → LacksRoute t ranks from to → from < length t.switches
  from_low from to x = by_walk x.0.0 x.0.1
    where
      by_walk : (n : ℕ) → Walk (LeadsTo t) n from to → from < length t.switches
      by_walk zero w = absurd (not_itself from to w x)
      by_walk (suc n) w = subst (λ y. y < length t.switches) w.1.2 (All-contains (λ (r : ChannelRow). r.tail.0 < length t.switches) t.channels w.1.0 good.channel_tails w.1.1)

  to_low : (from to : ℕ) → LacksRoute t ranks from to → to < length t.switches
  to_low from to x = connected_within t good from to x.0 (from_low from to x)

  found_missing : (from to : ℕ) → LacksRoute t ranks from to → IsMissingPair h table from to
  found_missing from to x = missing from to (from_low from to x) (to_low from to x) x

  module _ (switches : ℕ) (all : switches ≡ length t.switches) where
    pub none_lacks : ((from to : ℕ) → from < switches → to < switches → ¬ IsMissingPair h table from to) → (from to : ℕ) → ¬ LacksRoute t ranks from to
    none_lacks none from to x = none from to (omega (arith, all, from_low from to x)) (omega (arith, all, to_low from to x)) (found_missing from to x)

    pub none_missing : ((from to : ℕ) → from < switches → to < switches → ¬ IsMissingPair h table from to) → HasNoMissing t table
    none_missing none s to low high joined e = none s to (omega (arith, all, low)) (omega (arith, all, high)) (counted s to low high joined, e)

    pub first_lacks : (from to : ℕ) → IsFirstMissing h table switches from to → IsFirstWithoutRoute t ranks from to
    first_lacks from to x = record {
      lacks = lacks from to (omega (arith, all, x.within)) (omega (arith, all, x.here.within)) x.here.missing;
      first = λ a b before y. elim before [
        | inl less ↦ x.first a b less (omega (arith, all, to_low a b y)) (found_missing a b y)
        | inr later ↦ x.here.first b later.1 (subst (λ z. IsMissingPair h table z b) later.0 (found_missing a b y))
      ];
    }
