-- What is looked at comes from mixed walks; and where all behind each virtual channel that is found was looked at, all mixed walks were.
use Rattle.std.proofs.Common.{◌≡◌, ℕ, List, [], ◌∷◌, refl, sym, ◌∙◌, ap, subst, inl, inr, Contains, Some, None, Option}
use Rattle.fab_model.specs.Topology.{Topology}
use Rattle.fab_tables.specs.declared.verdict.VirtualChannel.{VirtualChannel}
use Rattle.fab_tables.specs.Route.Hop.{Along}
use Rattle.fab_tables.specs.Dependencies.{node_of}
use Rattle.fab_certify.specs.Collected.{IsMarked}
use Rattle.fab_transit.specs.declared.mixed.Side.{Side}
use Rattle.fab_transit.specs.declared.faults.Fault.{Fault}
use Rattle.fab_transit.specs.declared.found.Taken.{Taken}
use Rattle.fab_transit.specs.declared.walks.Walks.{Walks}
use Rattle.fab_transit.specs.MixedWalks.{Change, bound, Standing, hop_of, lane_along, MayTake, LeadsOn, standing_after, IsMixedWalk, ComesTo, IsOnMixedWalk, DependsMixedByNode}
use Rattle.fab_transit.specs.Answers.{IsFaultAt}
use Rattle.fab_transit.specs.Faults.{place_of_fault, mixed_of}
use Rattle.fab_transit.specs.Finding.{Findings}
use Rattle.fab_transit.specs.Walking.{Takes, IsWrongFrom, IsWrong, Keeps, Advances, LooksAt, IsTakenOn, AreFromWalks, AreFoundFor, IsSeen, IsSeenBehind, AreBegun, HasWalks, AreWalks, AreDependencies}
use Rattle.fab_transit.proofs.WalkSteps.{on_walk, depends_next, taken_on_walk, taken_in_turn}

module _ (t : Topology) (m : Change) (lid of_level : ℕ) (here : Standing) where
  -- what is looked at is what a packet may do
  pub takes_may : (v : VirtualChannel) → Takes t m lid of_level here v → MayTake t m lid of_level here v
  takes_may v s =
      let side : Side = s.0 in
      let along : hop_of t m lid side here.at ≡ Along s.1.0 = s.1.1 in
      let by = s.1.2 in
      let same : v.channel.0 ≡ s.1.0 = by.1.0 in
      record {
        enters = (side, along ∙ ap Along (sym same));
        map_side = by.0;
        mapped = ap (λ c. lane_along t m by.0 of_level here c) same ∙ by.1.1;
        good = by.1.2;
      }

  pub may_takes : (v : VirtualChannel) → MayTake t m lid of_level here v → Takes t m lid of_level here v
  may_takes v s = (s.enters.0, (v.channel.0, s.enters.1, (s.map_side, (refl, s.mapped, s.good))))

  -- a fault that is met stands at its place
  pub wrong_stands : ComesTo t m lid of_level here → (x : Fault) → IsWrong t m lid of_level here x → IsFaultAt t m (place_of_fault x) (mixed_of x)
  wrong_stands comes x wrong = by_side wrong.0 wrong.1
    where
      by_side : (side : Side) → IsWrongFrom t m lid of_level here side x → IsFaultAt t m (place_of_fault x) (mixed_of x)
      by_side side (inl lost) =
          subst (λ (y : Fault). IsFaultAt t m (place_of_fault y) (mixed_of y)) (sym lost.3)
          (refl, record { of_level = of_level; from = here.from; comes = comes; stops = lost.1; lost = lost.2 })
      by_side side (inr bad) =
          subst (λ (y : Fault). IsFaultAt t m (place_of_fault y) (mixed_of y)) (sym bad.2.1.0)
          (refl, record { of_level = of_level; from = here.from; channel = bad.0; comes = comes; enters = (side, bad.1); bad = bad.2.1.1 })

module _ (t : Topology) (m : Change) (lid of_level : ℕ) (here : Standing) (comes : ComesTo t m lid of_level here) (held : Option ℕ)
    (holds : (n : ℕ) → held ≡ Some n → (x : Taken) × IsTakenOn t m lid x × (x.level ≡ of_level) × (here ≡ standing_after t x.hop.channel.0) × (node_of (bound m) x.hop ≡ n))
    (f new_f : Findings) (w new_w : Walks) (looks : LooksAt (Takes t m lid of_level here) (IsWrong t m lid of_level here) m of_level held f new_f w new_w) where
  used_still : AreFromWalks t m w → (n : ℕ) → IsMarked new_w.dependencies n → (v : VirtualChannel) × IsOnMixedWalk t m v × (node_of (bound m) v ≡ n)
  used_still from n is = elim (looks.used_only n is) [
    | inl was ↦ from.used n was
    | inr new ↦ (new.0, on_walk t m lid of_level here new.0 comes (takes_may t m lid of_level here new.0 new.1), new.2)
  ]

  pairs_still : AreFromWalks t m w → (a b : ℕ) → Contains new_w.dependencies.pairs (a, b) → DependsMixedByNode t m a b
  pairs_still from a b has = elim (looks.pairs_only (a, b) has) [ inl was ↦ from.pairs a b was | inr new ↦ new_pair new.0 new.1 new.2 new.3 ]
    where
      new_pair : (v : VirtualChannel) → Takes t m lid of_level here v → held ≡ Some a → node_of (bound m) v ≡ b → DependsMixedByNode t m a b
      new_pair v s h e =
          let x = holds a h in
          let may : MayTake t m lid of_level here v = takes_may t m lid of_level here v s in
          let behind : MayTake t m lid x.0.level (standing_after t x.0.hop.channel.0) v
          = subst (λ l. MayTake t m lid l (standing_after t x.0.hop.channel.0) v) (sym x.2) (subst (λ s. MayTake t m lid of_level s v) x.3 may) in
          (x.0.hop, v, depends_next t m lid x.0.level x.1.0 x.0.hop v x.1.1 x.1.2 behind, x.4, e)

  fault_still : AreFromWalks t m w → (x : Fault) → new_w.fault ≡ Some x → IsFaultAt t m (place_of_fault x) (mixed_of x)
  fault_still from x is = elim (looks.fault_only x is) [ inl was ↦ from.fault x was | inr new ↦ wrong_stands t m lid of_level here comes x new ]

  pub from_still : AreFromWalks t m w → AreFromWalks t m new_w
  from_still from = record { each = looks.advances.keeps.grows.each ∙ from.each; used = used_still from; pairs = pairs_still from; fault = fault_still from }

  pub found_still : AreFoundFor t m lid f → AreFoundFor t m lid new_f
  found_still are = record {
    rooms = record { channels = looks.advances.found.channels ∙ are.rooms.channels; bound = looks.advances.found.bound ∙ are.rooms.bound };
    taken = λ x has. elim (looks.taken_only x has) [
      | inl was ↦ are.taken x was
      | inr new ↦ subst (λ l. (s : Standing) × ComesTo t m lid l s × MayTake t m lid l s x.hop) (sym new.1) (here, comes, takes_may t m lid of_level here x.hop new.0)
    ];
  }

  -- and all is seen there
  pub is_seen : IsSeen t m lid of_level here held new_f new_w
  is_seen = record {
    taken = λ v s. looks.taken v (may_takes t m lid of_level here v s);
    used = λ v s. looks.used v (may_takes t m lid of_level here v s);
    pairs = λ v n s h. looks.pairs v n (may_takes t m lid of_level here v s) h;
    faults = looks.faults;
  }

-- it stays seen
pub seen_still : (t : Topology) (m : Change) (lid of_level : ℕ) (here : Standing) (held : Option ℕ) (f new_f : Findings) (w new_w : Walks) → Advances f new_f w new_w →
    IsSeen t m lid of_level here held f w → IsSeen t m lid of_level here held new_f new_w
seen_still t m lid of_level here held f new_f w new_w a seen = record {
  taken = λ v s. a.found.has (record { hop = v; level = of_level }) (seen.taken v s);
  used = λ v s. a.keeps.grows.used (node_of (bound m) v) (seen.used v s);
  pairs = λ v n s h. a.keeps.grows.pairs (n, node_of (bound m) v) (seen.pairs v n s h);
  faults = λ x h. a.keeps.noted x (seen.faults x h);
}

-- ---- where all behind what is found was seen, all walks were

module _ (t : Topology) (m : Change) (lid : ℕ) (f : Findings) (w : Walks) (begun : AreBegun t m lid f w) (behind : (x : Taken) → Contains f.taken x → IsSeenBehind t m lid f w x) where
  along : (of_level : ℕ) (vs : List VirtualChannel) (here there : Standing) (held : Option ℕ) → IsSeen t m lid of_level here held f w → LeadsOn t m lid of_level here vs there →
      (h : Option ℕ) × IsSeen t m lid of_level there h f w
  along of_level [] here there held seen leads = (held, subst (λ s. IsSeen t m lid of_level s held f w) leads seen)
  along of_level (v ∷ vs) here there held seen leads =
      along of_level vs (standing_after t v.channel.0) there (Some (node_of (bound m) v)) (behind (record { hop = v; level = of_level }) (seen.taken v leads.0)) leads.1

  there_seen : (of_level : ℕ) (there : Standing) → ComesTo t m lid of_level there → (h : Option ℕ) × IsSeen t m lid of_level there h f w
  there_seen of_level there comes =
      let walk : IsMixedWalk t m comes.0 lid of_level comes.1 there = comes.2 in
      along of_level comes.1 (record { at = comes.0.switch.0; from = comes.0.port }) there None (begun comes.0 walk.level.0 walk.path of_level walk.level.1) walk.leads

  pub has_walks : HasWalks t m lid w
  has_walks = record {
    used = λ x on. (there_seen x.level on.0 on.1).1.used x.hop on.2;
    pairs = λ x v on next. (behind x ((there_seen x.level on.0 on.1).1.taken x.hop on.2)).pairs v (node_of (bound m) x.hop) next refl;
    faults = λ of_level there x comes wrong. (there_seen of_level there comes).1.faults x wrong;
  }

pub walks_kept : (t : Topology) (m : Change) (lid : ℕ) (w new_w : Walks) → Keeps w new_w → HasWalks t m lid w → HasWalks t m lid new_w
walks_kept t m lid w new_w keeps has = record {
  used = λ x on. keeps.grows.used (node_of (bound m) x.hop) (has.used x on);
  pairs = λ x v on next. keeps.grows.pairs (node_of (bound m) x.hop, node_of (bound m) v) (has.pairs x v on next);
  faults = λ of_level there x comes wrong. keeps.noted x (has.faults of_level there x comes wrong);
}

-- what is collected is the virtual channels of mixed walks, and their dependencies
pub are_dependencies : (t : Topology) (m : Change) (w : Walks) → AreWalks t m w → AreDependencies t m w.dependencies
are_dependencies t m w are = record {
  each = are.from_walks.each;
  used_by = are.from_walks.used;
  used = λ v on. let x = taken_on_walk t m v on in (are.has x.0).used (record { hop = v; level = x.1 }) x.2;
  pairs = λ a b. (are.from_walks.pairs a b, λ d. paired a b d);
}
  where
    paired : (a b : ℕ) → DependsMixedByNode t m a b → Contains w.dependencies.pairs (a, b)
    paired a b d =
        let x = taken_in_turn t m d.0 d.1 d.2 in
        subst (λ n. Contains w.dependencies.pairs (n, b)) d.3
        (subst (λ n. Contains w.dependencies.pairs (node_of (bound m) d.0, n)) d.4 ((are.has x.0).pairs (record { hop = d.0; level = x.1 }) d.1 x.2 x.3))
