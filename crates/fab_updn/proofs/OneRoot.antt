-- In a component with one root no pair is refused: each switch leads up to the root, and back down from it.
use Rattle.std.proofs.Common.{◌≡◌, ℕ, zero, suc, ◌+◌, ◌<◌, ◌≤◌, inl, inr, List, [], length, refl, sym, ◌∙◌, subst, arith, Contains, Option, Some, None}
use Rattle.std.specs.Prelude.{slice_index}
use Rattle.std.proofs.lemmas.Bool.{cases_lt}
use Rattle.std.proofs.lemmas.List.Elements.{All-contains}
use Rattle.std.proofs.lemmas.Option.{none-some}
use Rattle.fab_graph.specs.Least.{IsLeast}
use Rattle.fab_graph.specs.Walks.{Walk}
use Rattle.fab_graph.proofs.Walks.{walk_through}
use Rattle.fab_model.specs.declared.rows.ChannelRow.{ChannelRow}
use Rattle.fab_model.specs.Topology.{Topology}
use Rattle.fab_model.specs.Connected.{LeadsTo, AreConnected}
use Rattle.fab_model.specs.WellFormed.{IsWellFormed}
use Rattle.fab_tables.proofs.Joined.Walks.{connected_back, connected_through}
use Rattle.fab_hops.specs.HopCounts.{IsHopCount}
use Rattle.fab_hops.proofs.HopLaws.{one_hop_count}
use Rattle.fab_hops.proofs.HopWalks.{connected_have_count, connected_within, leads_nearer, leads_back}
use Rattle.fab_updn.specs.Ranks.{IsRoot, HasOneRoot, IsAtRoot, AreRanks, HasSmallerKey, GoesDown, StepsUp, StepsDown}
use Rattle.fab_updn.specs.Costs.{LeadsDown, IsCostAbove, AreCosts}
use Rattle.fab_updn.specs.UpDownPlans.{LacksRoute}
use Rattle.fab_updn.specs.Laws.{OneRootNeverRefused, UnnamedNeverRefused}
use Rattle.fab_updn.proofs.Roots.{one_centre, root_of_other}
use Rattle.fab_updn.proofs.Sequences.{key-trans, key-self}
use Rattle.fab_updn.proofs.Turns.{one_rank}

-- where no number is the least, none is there
none_below : (P : ℕ → Type 0) → ((n : ℕ) → ¬ IsLeast P n) → (limit n : ℕ) → n < limit → ¬ P n
none_below P none zero n low p = omega (arith, low)
none_below P none (suc limit) n low p =
    none n (record { holds = p; least = λ m q. elim (cases_lt m n) [ inl less ↦ absurd (none_below P none limit m (omega (arith, less, low)) q) | inr more ↦ more ] })

-- ---- a switch without a cost

module _ (t : Topology) (ranks : List ℕ) (to : ℕ) (cost : ℕ → Option ℕ) (costs : AreCosts t ranks to cost) where
  -- leads down nowhere
  no_down : (s : ℕ) → cost s ≡ None → ¬ LeadsDown t ranks to s
  no_down s none w = none_below (λ n. Walk (StepsDown t ranks) n s to) (λ n least. none-some n (sym none ∙ costs.down s n least)) (suc w.0) w.0 (omega arith) w.1

  -- and up only to others without one
  none_above : (s next : ℕ) → cost s ≡ None → StepsUp t ranks s next → cost next ≡ None
  none_above s next none step = by (cost next) refl
    where
      by : (o : Option ℕ) → cost next ≡ o → o ≡ None
      by None is = refl
      by (Some n) is =
          absurd (none_below (λ m. IsCostAbove t ranks cost s m) (λ m least. none-some (suc m) (sym none ∙ costs.up s m (no_down s none) least)) (suc n) n (omega arith) (next, step, is))

  none_on : (n s root : ℕ) → cost s ≡ None → Walk (StepsUp t ranks) n s root → cost root ≡ None
  none_on zero s root none w = subst (λ x. cost x ≡ None) w none
  none_on (suc n) s root none w = none_on n w.0 root (none_above s w.0 none w.1) w.2

-- ---- the other way a channel that goes up goes down

module _ (t : Topology) (good : IsWellFormed t) (ranks : List ℕ) where
  smaller_above : (s next : ℕ) → StepsUp t ranks s next → HasSmallerKey ranks next s
  smaller_above s next step = subst (λ x. HasSmallerKey ranks x s) step.3 (subst (λ x. HasSmallerKey ranks step.0.tip.0 x) step.2 step.4)

  step_back : (s next : ℕ) → StepsUp t ranks s next → StepsDown t ranks next s
  step_back s next step =
      let back : LeadsTo t next s = leads_back t good s next (step.0, step.1, step.2, step.3) in
      let above : HasSmallerKey ranks next s = smaller_above s next step in
      let down : GoesDown ranks back.0 = λ up. key-self ranks s (key-trans ranks s next s (subst (λ x. HasSmallerKey ranks x next) back.3 (subst (λ x. HasSmallerKey ranks back.0.tip.0 x) back.2 up)) above) in
      (back.0, back.1, back.2, back.3, down)

  walk_down : (n s root : ℕ) → Walk (StepsUp t ranks) n s root → LeadsDown t ranks s root
  walk_down zero s root w = (0, sym w)
  walk_down (suc n) s root w =
      let rest : LeadsDown t ranks w.0 root = walk_down n w.0 root w.2 in
      (rest.0 + 1, walk_through (StepsDown t ranks) rest.0 1 root w.0 s rest.1 (s, step_back s w.0 w.1, refl))

-- ---- the one root

module _ (t : Topology) (good : IsWellFormed t) (named ranks : List ℕ) (are : AreRanks t named ranks) where
  -- connected switches share it
  one_of_other : (s u : ℕ) → AreConnected t s u → HasOneRoot t named s → HasOneRoot t named u
  one_of_other s u joined one a b x y =
      let back : AreConnected t u s = connected_back t good s u joined in
      one a b (root_of_other t good named u s a back x) (root_of_other t good named u s b back y)

  rank_is : (s root n : ℕ) → s < length t.switches → HasOneRoot t named s → IsRoot t named s root → IsHopCount t s root n → slice_index ranks s ≡ n
  rank_is s root n low one is count = one_rank t named s (slice_index ranks s) n (are.each s low) (record { holds = (root, is, count); least = λ m x. least m x })
    where
      least : (m : ℕ) → IsAtRoot t named s m → n ≤ m
      least m x =
          let same : x.0 ≡ root = one x.0 root x.1 is in
          omega (arith, one_hop_count t s root n m count (subst (λ r. IsHopCount t s r m) same x.2))

  -- a switch leads up to it
  walk_up : (n s root : ℕ) → s < length t.switches → HasOneRoot t named s → IsRoot t named s root → IsHopCount t s root n → Walk (StepsUp t ranks) n s root
  walk_up zero s root low one is count = count.holds
  walk_up (suc n) s root low one is count =
      let found : (next : ℕ) × LeadsTo t s next × IsHopCount t next root n = leads_nearer t s root n count in
      let next : ℕ = found.0 in
      let joined : AreConnected t s next = (1, (next, found.1, refl)) in
      let high : next < length t.switches = connected_within t good s next joined low in
      let alone : HasOneRoot t named next = one_of_other s next joined one in
      let there : IsRoot t named next root = root_of_other t good named s next root joined is in
      let less : slice_index ranks next < slice_index ranks s = omega (arith, rank_is s root (suc n) low one is count, rank_is next root n high alone there found.2) in
      let up : HasSmallerKey ranks next s = inl less in
      let row : ChannelRow = found.1.0 in
      (next, (row, found.1.1, found.1.2, found.1.3, subst (λ x. HasSmallerKey ranks x row.tail.0) (sym found.1.3) (subst (λ x. HasSmallerKey ranks next x) (sym found.1.2) up)), walk_up n next root high alone there found.2)

  -- ---- no pair lacks a route

  module _ (from to : ℕ) (one : HasOneRoot t named from) (x : LacksRoute t ranks from to) where
    from_low : from < length t.switches
    from_low = by_walk x.0.0 x.0.1
      where
        by_walk : (n : ℕ) → Walk (LeadsTo t) n from to → from < length t.switches
        by_walk zero same = absurd (no_down t ranks to x.1.0 x.1.1 from x.1.2 (0, same))
        by_walk (suc n) w = subst (λ y. y < length t.switches) w.1.2 (All-contains (λ (r : ChannelRow). r.tail.0 < length t.switches) t.channels w.1.0 good.channel_tails w.1.1)

    at_root : IsAtRoot t named from (slice_index ranks from)
    at_root = (are.each from from_low).holds

    abbrev root : ℕ
    root = at_root.0

    none_at_root : x.1.0 root ≡ None
    none_at_root = none_on t ranks to x.1.0 x.1.1 (slice_index ranks from) from root x.1.2 (walk_up (slice_index ranks from) from root from_low one at_root.1 at_root.2)

    down_from_root : LeadsDown t ranks to root
    down_from_root =
        let joined : AreConnected t to root = connected_through t to from root (connected_back t good from to x.0) (slice_index ranks from, at_root.2.holds) in
        let count : (n : ℕ) × IsHopCount t to root n = connected_have_count t to root joined in
        walk_down t good ranks count.0 to root
        (walk_up count.0 to root (connected_within t good from to x.0 from_low) (one_of_other from to x.0 one) (root_of_other t good named from to root x.0 at_root.1) count.1)

    pub none_lacks : ⊥
    none_lacks = no_down t ranks to x.1.0 x.1.1 root none_at_root down_from_root

pub one_root_never_refused : OneRootNeverRefused
one_root_never_refused t named from to good one x = none_lacks t good named x.0 x.1 from to one x.2.lacks

-- ---- without named roots the centre is the one root

no_name : {root : ℕ} → ¬ Contains [] root
no_name has = omega (arith, has.1)

centre_alone : (t : Topology) (s : ℕ) → HasOneRoot t [] s
centre_alone t s a b (inl x) y = absurd (no_name x.0)
centre_alone t s a b (inr x) (inl y) = absurd (no_name y.0)
centre_alone t s a b (inr x) (inr y) = one_centre t s a b x.1 y.1

pub unnamed_never_refused : UnnamedNeverRefused
unnamed_never_refused t from to good x = one_root_never_refused t [] from to good (centre_alone t from) x
