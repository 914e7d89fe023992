-- A fabric with named roots has an up/down plan or a refused pair.
use Rattle.std.proofs.Common.{◌≡◌, ◌≢◌, ℕ, zero, suc, ◌<◌, ◌⊎◌, inl, inr, List, [], length, refl, sym, ◌∙◌, ap, subst, arith, Option, Some, None}
use Rattle.std.specs.Prelude.{slice_get, slice_index_or, IsSome}
use Rattle.std.proofs.lemmas.List.Elements.{All-contains}
use Rattle.std.proofs.lemmas.Option.{same_Some, none-some}
use Rattle.fab_graph.specs.Least.{IsLeast}
use Rattle.fab_graph.specs.Walks.{Walk}
use Rattle.fab_graph.proofs.Decided.{Decided, equal, equivalent, both, below_decided, not_decided, found_below, least_of}
use Rattle.fab_model.specs.declared.rows.ChannelRow.{ChannelRow}
use Rattle.fab_model.specs.Topology.{Topology, channel_at}
use Rattle.fab_model.specs.Connected.{LeadsTo, AreConnected}
use Rattle.fab_model.specs.WellFormed.{IsFabric}
use Rattle.fab_tables.specs.declared.plan.Plan.{Plan}
use Rattle.fab_tables.specs.Entries.{Entries}
use Rattle.fab_tables.specs.Fit.{PlanFits}
use Rattle.fab_tables.specs.FixedEntries.{HasChosenEntries}
use Rattle.fab_hops.specs.HopCounts.{HopTable, IsHopTable, AreHops, hop_count}
use Rattle.fab_hops.proofs.HopWalks.{connected_within}
use Rattle.fab_hops.proofs.TableExists.{hop_table_exists}
use Rattle.fab_balance.specs.Loads.{IsBalancedChoice}
use Rattle.fab_balance.proofs.TablesExist.{AreEligible, balanced_tables_exist}
use Rattle.fab_certify.specs.declared.certified.Certified.{Certified}
use Rattle.fab_certify.specs.declared.certified.Certified.TheVariants.{Numbers, Refused, RingUsed}
use Rattle.fab_certify.specs.Certificate.{IsCertificate}
use Rattle.fab_certify.proofs.Exists.Certificates.{certificate_exists}
use Rattle.fab_certify.proofs.Numbered.Certificates.{certificate_fits}
use Rattle.fab_certify.proofs.Plainly.{plain_certificate}
use Rattle.fab_updn.specs.declared.costs.Cost.{Cost}
use Rattle.fab_updn.specs.declared.costs.Cost.TheVariants.{Below, Above, Missing}
use Rattle.fab_updn.specs.Ranks.{AreRanks, GoesUp}
use Rattle.fab_updn.specs.UpDown.{IsAt, AreUpDownTables}
use Rattle.fab_updn.specs.UpDownPlans.{AreLegalTables, IsUpDownPlan, IsRefusedPair}
use Rattle.fab_updn.specs.Found.{cost_at, costs_of, AreAllCosts, HasNoMissing, IsMissingPair, IsFirstMissing, IsLegalStep, IsLegalRow}
use Rattle.fab_updn.specs.Laws.{PlanOrRefusalExists}
use Rattle.fab_updn.proofs.CostRows.{are_costs}
use Rattle.fab_updn.proofs.Eligibility.{IsLegalBy, small}
use Rattle.fab_updn.proofs.Legal.{row_is_port, port_is_row, some_legal}
use Rattle.fab_updn.proofs.Pairs.{none_lacks, none_missing, first_lacks}
use Rattle.fab_updn.proofs.Plans.{no_refusal, no_ring, numbers_are}
use Rattle.fab_updn.proofs.Exists.Costs.{smaller_decided, all_costs_exist}
use Rattle.fab_updn.proofs.Exists.Ranks.{ranks_exist}

-- ---- the first missing pair, or none

is_some : (o : Option ℕ) → Decided (IsSome o)
is_some None = inr (λ is. cc)
is_some (Some n) = inl refl

is_missing : (c : Cost) → Decided (c ≡ Missing)
is_missing (Below n) = inr (λ e. cc)
is_missing (Above n) = inr (λ e. cc)
is_missing Missing = inl refl

module _ (h : HopTable) (table : List (List Cost)) (switches : ℕ) where
  pair_decided : (from to : ℕ) → Decided (IsMissingPair h table from to)
  pair_decided from to = both _ _ (is_some (hop_count h from to)) (is_missing (cost_at (slice_index_or table to []) from))

  abbrev MissesOne : ℕ → Type 0
  MissesOne from = (to : ℕ) × (to < switches) × IsMissingPair h table from to

  misses_decided : (from : ℕ) → Decided (MissesOne from)
  misses_decided from = elim (found_below (λ to. IsMissingPair h table from to) (pair_decided from) switches) [ inl found ↦ inl found | inr none ↦ inr (λ x. none x.0 x.1 x.2) ]

  first_missing_of : (from : ℕ) → from < switches → MissesOne from → (a b : ℕ) × IsFirstMissing h table switches a b
  first_missing_of from low x = go (least_of (λ a. (a < switches) × MissesOne a) (λ a. both _ _ (below_decided a switches) (misses_decided a)) from (low, x))
    where
      go : (a : ℕ) × IsLeast (λ a. (a < switches) × MissesOne a) a → (a b : ℕ) × IsFirstMissing h table switches a b
      go a =
          let one : MissesOne a.0 = a.1.holds.1 in
          let b : (b : ℕ) × IsLeast (λ b. (b < switches) × IsMissingPair h table a.0 b) b = least_of (λ b. (b < switches) × IsMissingPair h table a.0 b) (λ b. both _ _ (below_decided b switches) (pair_decided a.0 b)) one.0 (one.1, one.2) in (
            a.0,
            b.0,
            record {
              within = a.1.holds.0;
              here = record { within = b.1.holds.0; missing = b.1.holds.1; first = λ c less y. omega (arith, less, b.1.least c (omega (arith, less, b.1.holds.0), y)) };
              first = λ c d less high y. omega (arith, less, a.1.least c (omega (arith, less, a.1.holds.0), (d, high, y)));
            },
          )

  first_or_none : ((a b : ℕ) × IsFirstMissing h table switches a b) ⊎ ((from to : ℕ) → from < switches → to < switches → ¬ IsMissingPair h table from to)
  first_or_none = elim (found_below MissesOne misses_decided switches) [
    | inl found ↦ inl (first_missing_of found.0 found.1 found.2)
    | inr none ↦ inr (λ from to low high x. none from low (to, high, x))
  ]

-- ---- legal ports are decided

step_decided : (ranks : List ℕ) (row : ChannelRow) (here there : Cost) → Decided (IsLegalStep ranks row here there)
step_decided ranks row (Below n) (Below m) = both _ _ (equal _ _) (not_decided (GoesUp ranks row) (smaller_decided ranks row.tip.0 row.tail.0))
step_decided ranks row (Below n) (Above m) = inr (λ x. x)
step_decided ranks row (Below n) Missing = inr (λ x. x)
step_decided ranks row (Above n) (Below m) = both _ _ (equal _ _) (smaller_decided ranks row.tip.0 row.tail.0)
step_decided ranks row (Above n) (Above m) = both _ _ (equal _ _) (smaller_decided ranks row.tip.0 row.tail.0)
step_decided ranks row (Above n) Missing = inr (λ x. x)
step_decided ranks row Missing there = inr (λ x. x)

-- the port's channel may be taken
abbrev HasLegalRow : Topology → List ℕ → List Cost → ℕ → ℕ → Type 0
HasLegalRow t ranks costs s port = (row : ChannelRow) × IsAt t s port row × IsLegalRow ranks costs row

legal_row_decided : (t : Topology) (ranks : List ℕ) (costs : List Cost) (s port : ℕ) → Decided (HasLegalRow t ranks costs s port)
legal_row_decided t ranks costs s port = at_port (channel_at t s port) refl
  where
    at_channel : (c : ℕ) → channel_at t s port ≡ Some c → (o : Option ChannelRow) → slice_get t.channels c ≡ o → Decided (HasLegalRow t ranks costs s port)
    at_channel c at None is = inr (λ x. none-some x.0 (sym is ∙ ap (λ k. slice_get t.channels k) (same_Some c x.1.0 (sym at ∙ x.1.1)) ∙ x.1.2))
    at_channel c at (Some row) is =
        equivalent (IsLegalRow ranks costs row) (HasLegalRow t ranks costs s port) (λ x. (row, (c, at, is), x))
        (λ x. let same : x.0 ≡ row = same_Some x.0 row (sym x.1.2 ∙ ap (λ k. slice_get t.channels k) (same_Some x.1.0 c (sym x.1.1 ∙ at)) ∙ is) in subst (λ r. IsLegalRow ranks costs r) same x.2)
        (step_decided ranks row (cost_at costs row.tail.0) (cost_at costs row.tip.0))

    at_port : (o : Option ℕ) → channel_at t s port ≡ o → Decided (HasLegalRow t ranks costs s port)
    at_port None at = inr (λ x. none-some x.1.0 (sym at ∙ x.1.1))
    at_port (Some c) at = at_channel c at (slice_get t.channels c) refl

-- ---- tables and plans

module _ (t : Topology) (fabric : IsFabric t) (ranks : List ℕ) (table : List (List Cost)) (are : AreAllCosts t ranks table) (none : HasNoMissing t table) where
  from_low : (s to : ℕ) → AreConnected t s to → s ≢ to → s < length t.switches
  from_low s to joined other = by_walk joined.0 joined.1
    where
      by_walk : (n : ℕ) → Walk (LeadsTo t) n s to → s < length t.switches
      by_walk zero w = absurd (other w)
      by_walk (suc n) w = subst (λ y. y < length t.switches) w.1.2 (All-contains (λ (r : ChannelRow). r.tail.0 < length t.switches) t.channels w.1.0 fabric.rows.channel_tails w.1.1)

  to_low : (s to : ℕ) → AreConnected t s to → s ≢ to → to < length t.switches
  to_low s to joined other = connected_within t fabric.rows s to joined (from_low s to joined other)

  legal_eligible : AreEligible t (IsLegalBy t ranks table)
  legal_eligible = record {
    low = λ s to port x. small t fabric.rows ranks table are s to port x;
    decided = λ s to joined other port.
        (let low = from_low s to joined other in
        let costs = are.each to (to_low s to joined other) in
        equivalent (HasLegalRow t ranks (slice_index_or table to []) s port) (IsLegalBy t ranks table s to port)
        (row_is_port t fabric.rows ranks to (slice_index_or table to []) costs s port low) (port_is_row t fabric.rows ranks to (slice_index_or table to []) costs s port low) (legal_row_decided t ranks (slice_index_or table to []) s port));
    some = λ s to joined other.
        (let low = from_low s to joined other in
        let high = to_low s to joined other in
        some_legal t fabric.rows ranks to (slice_index_or table to []) (are.each to high) s low other (none s to low high joined));
  }

  legal_tables_exist : (e : Entries) × AreUpDownTables t ranks e
  legal_tables_exist =
      let made : (e : Entries) × HasChosenEntries t e (λ s lid to port. IsBalancedChoice t e s lid (λ p. IsLegalBy t ranks table s to p) port) = balanced_tables_exist t fabric (IsLegalBy t ranks table) legal_eligible in (
        made.0,
        record { cost = costs_of table; costs = λ to low. are_costs t fabric.rows ranks to (slice_index_or table to []) (are.each to low) low; entries = made.1 },
      )

module _ (t : Topology) (fabric : IsFabric t) (named : List ℕ) where
  plan_of_tables : (e : Entries) → AreLegalTables t named e → (p : Plan) × IsUpDownPlan t named p
  plan_of_tables e legal = go (certificate_exists t plain fabric fits)
    where
      plain : Plan
      plain = record { tables = e; lanes = None }

      fits : PlanFits t plain
      fits = record { tables = legal.tables.entries.fixed.fits; lanes = tt }

      go : (answer : Certified) × IsCertificate t plain answer → (p : Plan) × IsUpDownPlan t named p
      go (Numbers new, x) = (new, numbers_are t fabric.rows named plain legal refl (Numbers new) (plain_certificate t plain (Numbers new) tt x) new refl (certificate_fits t plain new x fits))
      go (Refused fault, x) = absurd (no_refusal t fabric.rows named plain legal refl (Refused fault) (plain_certificate t plain (Refused fault) tt x) fault refl)
      go (RingUsed ring, x) = absurd (no_ring t fabric.rows named plain legal refl (RingUsed ring) x ring refl)

  module _ (ranks : List ℕ) (are_ranks : AreRanks t named ranks) (h : HopTable) (hops : AreHops t h) (table : List (List Cost)) (are : AreAllCosts t ranks table) where
    by_pairs : ((a b : ℕ) × IsFirstMissing h table (length t.switches) a b) ⊎ ((from to : ℕ) → from < length t.switches → to < length t.switches → ¬ IsMissingPair h table from to) →
        ((p : Plan) × IsUpDownPlan t named p) ⊎ ((from to : ℕ) × IsRefusedPair t named from to)
    by_pairs (inl first) = inr (first.0, first.1, (ranks, are_ranks, first_lacks t fabric.rows h hops ranks are_ranks.whole table are (length t.switches) refl first.0 first.1 first.2))
    by_pairs (inr none) =
        let made : (e : Entries) × AreUpDownTables t ranks e = legal_tables_exist t fabric ranks table are (none_missing t fabric.rows h hops ranks are_ranks.whole table are (length t.switches) refl none) in
        inl (plan_of_tables made.0 (record { ranks = ranks; are_ranks = are_ranks; legal = none_lacks t fabric.rows h hops ranks are_ranks.whole table are (length t.switches) refl none; tables = made.1 }))

pub plan_or_refusal_exists : PlanOrRefusalExists
plan_or_refusal_exists t named fabric within =
    let ranks : (ranks : List ℕ) × AreRanks t named ranks = ranks_exist t fabric.rows named within in
    let h : (h : HopTable) × IsHopTable h × AreHops t h = hop_table_exists t fabric.rows in
    let table : (table : List (List Cost)) × AreAllCosts t ranks.0 table = all_costs_exist t fabric.rows ranks.0 ranks.1.whole in
    by_pairs t fabric named ranks.0 ranks.1 h.0 h.2 table.0 table.1 (first_or_none h.0 table.0 (length t.switches))
