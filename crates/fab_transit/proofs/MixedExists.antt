-- A change has an answer: packets stand in finitely many places and take finitely many virtual channels, so that the faults can be listed.
use Rattle.std.proofs.Common.{◌≡◌, ◌≢◌, ℕ, zero, suc, ◌*◌, ◌^◌, ◌<◌, ◌≤◌, ◌⊎◌, inl, inr, Bool, true, false, List, [], ◌∷◌, length, map, refl, sym, ◌∙◌, ap, subst, arith, Some, None, Option, Contains}
use Rattle.std.specs.Prelude.{IfSome, ◌==◌, ◌||◌, slice_index_or, nat_lt, if◌then◌else◌}
use Rattle.std.specs.List.{range_with_len, list_any}
use Rattle.std.proofs.Math.Nat.{mul-le-mul_left}
use Rattle.std.proofs.lemmas.Bool.{cases_lt}
use Rattle.std.proofs.lemmas.Bool.Decides.{eqb_tells}
use Rattle.std.proofs.lemmas.List.{get_or_past, get_or_default}
use Rattle.std.proofs.lemmas.List.FromFn.{length-map-range_with_len, get_or-map-range_with_len}
use Rattle.std.proofs.lemmas.Option.{none-some, same_Some}
use Rattle.fab_graph.specs.Walks.{Walk, IsEdge, IsAcyclic}
use Rattle.fab_graph.specs.Rings.{IsFirstRing}
use Rattle.fab_graph.proofs.Decided.{Decided, equivalent, both, either, below_decided, contains_decided}
use Rattle.fab_graph.proofs.FirstRings.{comes_decided, ring_or_acyclic}
use Rattle.fab_graph.proofs.Members.{first, later, first_or_later}
use Rattle.fab_model.specs.declared.rows.TerminalRow.{TerminalRow}
use Rattle.fab_model.specs.Topology.{Topology, lids_of, lid_id, switch_id}
use Rattle.fab_model.specs.Connected.{IsConnectedTo}
use Rattle.fab_model.specs.WellFormed.{IsFabric}
use Rattle.fab_model.proofs.Lists.Found.{in_range}
use Rattle.fab_model.proofs.Lists.Members.{Contains_from_in}
use Rattle.fab_tables.specs.declared.end.End.{End}
use Rattle.fab_tables.specs.declared.end.End.TheVariants.{Delivered, NoEntry, DeadPort, Astray, Loop}
use Rattle.fab_tables.specs.declared.verdict.VirtualChannel.{VirtualChannel}
use Rattle.fab_tables.specs.Dependencies.{node_of}
use Rattle.fab_tables.specs.Entries.{entry}
use Rattle.fab_tables.specs.First.{IsBefore}
use Rattle.fab_tables.specs.Fit.{IsSource, LanesFit, PlanFits}
use Rattle.fab_tables.specs.LaneTables.{LaneTables, AreLaneTables}
use Rattle.fab_tables.specs.Reading.{count_read, level_read}
use Rattle.fab_tables.specs.Route.{Hop, Along, Stop}
use Rattle.fab_tables.specs.VirtualChannels.{virtual_channel}
use Rattle.fab_tables.proofs.Faults.Firsts.{first_in}
use Rattle.fab_tables.proofs.Joined.Ascending.{lids_are}
use Rattle.fab_tables.proofs.Joined.ConnectedDecided.{connected_to_decided}
use Rattle.fab_tables.proofs.Joined.Lids.{connected_in_use}
use Rattle.fab_tables.proofs.Paths.FallingRoutes.{channel_found}
use Rattle.fab_tables.proofs.Paths.RouteTurns.{along_channel}
use Rattle.fab_tables.proofs.Rows.LaneSets.{new_kept}
use Rattle.fab_certify.specs.Collected.{Collected, IsMarked}
use Rattle.fab_certify.specs.Numbers.{number_given, HasNumbers}
use Rattle.fab_certify.specs.Numbered.{IsNumberedBy}
use Rattle.fab_certify.proofs.Collected.CollectingHops.{node_low}
use Rattle.fab_certify.proofs.Exists.ByLevels.{levels, listed_low, node_levels}
use Rattle.fab_certify.proofs.Exists.Listed.{Listed, none_listed, one_listed, same_listed, either_listed, where_listed, some_listed}
use Rattle.fab_certify.proofs.Exists.Numbers.{numbers_exist}
use Rattle.fab_transit.specs.declared.mixed.Side.{Side}
use Rattle.fab_transit.specs.declared.mixed.Side.TheVariants.{Old, New}
use Rattle.fab_transit.specs.declared.mixed.Mixed.{Mixed}
use Rattle.fab_transit.specs.declared.mixed.Mixed.TheVariants.{Numbers, NoLevel, Lost, BadLane, RingMixed}
use Rattle.fab_transit.specs.MixedWalks.{Change, plan_of, bound, Standing, hop_of, lane_along, MayEnter, MayTake, standing_after, LeadsOn, IsMixedWalk, ComesTo, IsOnMixedWalk, DependsMixed, DependsMixedByNode}
use Rattle.fab_transit.specs.Answers.{side_number, LacksLevel, IsFaultAt, HasNoFault, IsAnswerTo, bare_lanes}
use Rattle.fab_transit.specs.Walking.{AreDependencies, IsTakenOn}
use Rattle.fab_transit.proofs.Numbering.{is_numbered, mixed_ring}
use Rattle.fab_transit.proofs.WalkSteps.{on_walk, depends_next, taken_on_walk, taken_in_turn}

-- ---- lists

-- of either side
of_sides : {A : Type 0} (P : Side → A → Type 0) → ((side : Side) → Listed (P side)) → Listed (λ a. (side : Side) × P side a)
of_sides {A} P each = same_listed (λ a. P Old a ⊎ P New a) (λ a. (side : Side) × P side a) (λ a x. elim x [ inl p ↦ (Old, p) | inr p ↦ (New, p) ]) back (either_listed (P Old) (P New) (each Old) (each New))
  where
    back : (a : A) → (side : Side) × P side a → P Old a ⊎ P New a
    back a (Old, p) = inl p
    back a (New, p) = inr p

-- of what a list names
of_listed : {A B : Type 0} (Q : B → Type 0) (P : B → A → Type 0) → Listed Q → ((b : B) → Listed (P b)) → Listed (λ a. (b : B) × Q b × P b a)
of_listed Q P l each =
    same_listed (λ a. (b : _) × Contains l.list b × P b a) (λ a. (b : _) × Q b × P b a) (λ a s. (s.0, l.only s.0 s.1, s.2)) (λ a s. (s.0, l.all s.0 s.1, s.2)) (some_listed P each l.list)

sides_decided : (P : Side → Type 0) → ((side : Side) → Decided (P side)) → Decided ((side : Side) × P side)
sides_decided P each = equivalent (P Old ⊎ P New) ((side : Side) × P side) (λ x. elim x [ inl p ↦ (Old, p) | inr p ↦ (New, p) ]) back (either (P Old) (P New) (each Old) (each New))
  where
    back : (side : Side) × P side → P Old ⊎ P New
    back (Old, p) = inl p
    back (New, p) = inr p

below : (n k : ℕ) → k < n → Contains (range_with_len 0 n) k
below n k low = Contains_from_in (range_with_len 0 n) k (in_range 0 n k (omega arith) (omega (arith, low)))

tells : {P : Type 0} → Decided P → Bool
tells (inl x) = true
tells (inr none) = false

told : {P : Type 0} (d : Decided P) → tells d ≡ true → P
unfolding tells
told (inl x) e = x
told (inr none) e = cc

told_so : {P : Type 0} (d : Decided P) → P → tells d ≡ true
unfolding tells
told_so (inl x) y = refl
told_so (inr none) y = absurd (none y)

-- ---- the first of listed places

pub record Placed : Type 0 where
  pub place : List ℕ
  pub fault : Mixed

found_source : (rows : List TerminalRow) (s : ℕ) → list_any (λ (row : TerminalRow). row.switch.0 == s) rows ≡ true → (p : TerminalRow) × Contains rows p × (p.switch.0 ≡ s)
found_source [] s e = cc
found_source (r ∷ rs) s e = elim (eqb_tells r.switch.0 s) [
  | inl x ↦ (r, first r rs, x.1)
  | inr x ↦
      (let rest : (p : TerminalRow) × Contains rs p × (p.switch.0 ≡ s) = found_source rs s (ap (λ b. b || list_any (λ (row : TerminalRow). row.switch.0 == s) rs) (sym x.0) ∙ e) in
      (rest.0, later r rs rest.0 rest.1, rest.2))
]

-- where packets stand, and for which LID and level
pub record Come : Type 0 where
  pub lid : ℕ
  pub of_level : ℕ
  pub there : Standing

module _ (t : Topology) (m : Change) where
  -- ---- what packets take

  module _ (lid of_level : ℕ) where
    along_listed : (h : Hop) → Listed (λ c. h ≡ Along c)
    along_listed (Along d) = same_listed (λ c. d ≡ c) (λ c. Along d ≡ Along c) (λ c e. ap (λ (n : ℕ). Along n) e) (λ c e. cc) (one_listed d)
    along_listed (Stop end) = none_listed (λ c. Stop end ≡ Along c) (λ c e. cc)

    enters : (here : Standing) → Listed (MayEnter t m lid here)
    enters here = of_sides (λ side c. hop_of t m lid side here.at ≡ Along c) (λ side. along_listed (hop_of t m lid side here.at))

    abbrev Mapped : Standing → ℕ → Side → VirtualChannel → Type 0
    Mapped here c side v = (lane_along t m side of_level here c < bound m) × (virtual_channel c (lane_along t m side of_level here c) ≡ v)

    takes : (here : Standing) → Listed (MayTake t m lid of_level here)
    takes here =
        same_listed (λ v. (c : ℕ) × MayEnter t m lid here c × ((side : Side) × Mapped here c side v)) (MayTake t m lid of_level here)
        (λ v s. subst (MayTake t m lid of_level here) s.2.1.1 (record { enters = s.1; map_side = s.2.0; mapped = refl; good = s.2.1.0 }))
        (λ v may. (
          v.channel.0,
          may.enters,
          (may.map_side, (subst (λ n. n < bound m) (sym may.mapped) may.good, ap (λ (n : ℕ). virtual_channel v.channel.0 n) may.mapped)),
        ))
        (of_listed (MayEnter t m lid here) (λ c v. (side : Side) × Mapped here c side v) (enters here)
        (λ c. of_sides (Mapped here c)
        (λ side. where_listed (lane_along t m side of_level here c < bound m) (λ v. virtual_channel c (lane_along t m side of_level here c) ≡ v) (below_decided (lane_along t m side of_level here c) (bound m)) (one_listed (virtual_channel c (lane_along t m side of_level here c))))))

    low : (here : Standing) (v : VirtualChannel) → MayTake t m lid of_level here v → v.channel.0 < length t.channels
    low here v may =
        (channel_found t here.at (entry (plan_of m may.enters.0).tables here.at lid) v.channel.0 (along_channel t lid here.at (entry (plan_of m may.enters.0).tables here.at lid) v.channel.0 may.enters.1)).1

    -- ---- where they come from a standing

    abbrev Steps : ℕ × ℕ → Type 0
    Steps x = (c : ℕ) × Contains (range_with_len 0 (length t.channels)) c × ((v : VirtualChannel) × MayTake t m lid of_level (standing_after t c) v × ((c, v.channel.0) ≡ x))

    steps : Listed Steps
    steps =
        some_listed (λ c x. (v : VirtualChannel) × MayTake t m lid of_level (standing_after t c) v × ((c, v.channel.0) ≡ x))
        (λ c. of_listed (MayTake t m lid of_level (standing_after t c)) (λ v x. (c, v.channel.0) ≡ x) (takes (standing_after t c)) (λ v. one_listed (c, v.channel.0))) (range_with_len 0 (length t.channels))

    abbrev Comes : ℕ → ℕ → Type 0
    Comes c d = (n : ℕ) × Walk (IsEdge steps.list) n c d

    behind : (vs : List VirtualChannel) (c : ℕ) (there : Standing) → c < length t.channels → LeadsOn t m lid of_level (standing_after t c) vs there → (d : ℕ) × (d < length t.channels) × Comes c d × (standing_after t d ≡ there)
    behind [] c there within leads = (c, within, (zero, refl), leads)
    behind (v ∷ vs) c there within leads =
        let edge : IsEdge steps.list c v.channel.0 = steps.all (c, v.channel.0) (c, below (length t.channels) c within, (v, leads.0, refl)) in
        let rest : (d : ℕ) × (d < length t.channels) × Comes v.channel.0 d × (standing_after t d ≡ there) = behind vs v.channel.0 there (low (standing_after t c) v leads.0) leads.1 in
        (rest.0, rest.1, (suc rest.2.0, (v.channel.0, edge, rest.2.1)), rest.3)

    ahead : (n c d : ℕ) → Walk (IsEdge steps.list) n c d → (vs : List VirtualChannel) × LeadsOn t m lid of_level (standing_after t c) vs (standing_after t d)
    ahead zero c d walk = ([], ap (λ (k : ℕ). standing_after t k) walk)
    ahead (suc n) c d walk =
        let s : Steps (c, walk.0) = steps.only (c, walk.0) walk.1 in
        let here : s.0 ≡ c = ap (λ (x : ℕ × ℕ). x.0) s.2.2 in
        let next : s.2.0.channel.0 ≡ walk.0 = ap (λ (x : ℕ × ℕ). x.1) s.2.2 in
        let rest : (vs : List VirtualChannel) × LeadsOn t m lid of_level (standing_after t walk.0) vs (standing_after t d) = ahead n walk.0 d walk.2 in (
          s.2.0 ∷ rest.0,
          (
            subst (λ (k : ℕ). MayTake t m lid of_level (standing_after t k) s.2.0) here s.2.1,
            subst (λ (k : ℕ). LeadsOn t m lid of_level (standing_after t k) rest.0 (standing_after t d)) (sym next) rest.1,
          ),
        )

    abbrev Reaches : Standing → Standing → Type 0
    Reaches here there = (vs : List VirtualChannel) × LeadsOn t m lid of_level here vs there

    abbrev Passes : Standing → Standing → Type 0
    Passes here there =
        (v : VirtualChannel) × MayTake t m lid of_level here v × ((d : ℕ) × Contains (range_with_len 0 (length t.channels)) d × (Comes v.channel.0 d × (standing_after t d ≡ there)))

    reaches : (here : Standing) → Listed (Reaches here)
    reaches here = same_listed (λ there. (here ≡ there) ⊎ Passes here there) (Reaches here) to back (either_listed (λ there. here ≡ there) (Passes here) (one_listed here) passes)
      where
        passes : Listed (Passes here)
        passes =
            of_listed (MayTake t m lid of_level here) (λ v there. (d : ℕ) × Contains (range_with_len 0 (length t.channels)) d × (Comes v.channel.0 d × (standing_after t d ≡ there))) (takes here)
            (λ v. some_listed (λ d there. Comes v.channel.0 d × (standing_after t d ≡ there))
            (λ d. where_listed (Comes v.channel.0 d) (λ there. standing_after t d ≡ there) (comes_decided steps.list v.channel.0 d) (one_listed (standing_after t d))) (range_with_len 0 (length t.channels)))

        to : (there : Standing) → (here ≡ there) ⊎ Passes here there → Reaches here there
        to there (inl e) = ([], e)
        to there (inr p) =
            let rest : (vs : List VirtualChannel) × LeadsOn t m lid of_level (standing_after t p.0.channel.0) vs (standing_after t p.2.0) = ahead p.2.2.0.0 p.0.channel.0 p.2.0 p.2.2.0.1 in
            (p.0 ∷ rest.0, (p.1, subst (λ s. LeadsOn t m lid of_level (standing_after t p.0.channel.0) rest.0 s) p.2.2.1 rest.1))

        back : (there : Standing) → Reaches here there → (here ≡ there) ⊎ Passes here there
        back there r = by r.0 r.1
          where
            by : (vs : List VirtualChannel) → LeadsOn t m lid of_level here vs there → (here ≡ there) ⊎ Passes here there
            by [] leads = inl leads
            by (v ∷ vs) leads =
                let far : (d : ℕ) × (d < length t.channels) × Comes v.channel.0 d × (standing_after t d ≡ there) = behind vs v.channel.0 there (low here v leads.0) leads.1 in
                inr (v, leads.0, (far.0, below (length t.channels) far.0 far.1, (far.2, far.3)))

  -- ---- where packets come

  abbrev start : TerminalRow → Standing
  start p = record { at = p.switch.0; from = p.port }

  abbrev Arrives : TerminalRow → ℕ → Side → Come → Type 0
  Arrives p lid side x = (of_level : ℕ) × (level_read (plan_of m side).lanes p.switch.0 lid ≡ Some of_level) × ((there : Standing) × Reaches lid of_level (start p) there × (record { lid = lid; of_level = of_level; there = there } ≡ x))

  abbrev Ends : TerminalRow → ℕ → ℕ → Come → Type 0
  Ends p lid of_level x = (there : Standing) × Reaches lid of_level (start p) there × (record { lid = lid; of_level = of_level; there = there } ≡ x)

  arrives : (p : TerminalRow) (lid : ℕ) (side : Side) → Listed (Arrives p lid side)
  arrives p lid side = by (level_read (plan_of m side).lanes p.switch.0 lid) refl
    where
      by : (o : Option ℕ) → level_read (plan_of m side).lanes p.switch.0 lid ≡ o → Listed (Arrives p lid side)
      by None is = none_listed (Arrives p lid side) (λ x s. none-some s.0 (sym is ∙ s.1))
      by (Some of_level) is =
          same_listed (Ends p lid of_level) (Arrives p lid side) (λ x s. (of_level, is, s)) (λ x s. subst (λ (n : ℕ). Ends p lid n x) (same_Some s.0 of_level (sym s.1 ∙ is)) s.2)
          (of_listed (Reaches lid of_level (start p)) (λ there x. record { lid = lid; of_level = of_level; there = there } ≡ x) (reaches lid of_level (start p)) (λ there. one_listed (record { lid = lid; of_level = of_level; there = there })))

  abbrev IsCome : Come → Type 0
  IsCome x = ComesTo t m x.lid x.of_level x.there

  comes : Listed IsCome
  comes =
      same_listed (λ x. (p : TerminalRow) × Contains t.terminals p × ((lid : ℕ) × Contains (lids_of t) lid × (IsConnectedTo t p.switch.0 lid × ((side : Side) × Arrives p lid side x)))) IsCome to back
      (some_listed (λ p x. (lid : ℕ) × Contains (lids_of t) lid × (IsConnectedTo t p.switch.0 lid × ((side : Side) × Arrives p lid side x)))
      (λ p. some_listed (λ lid x. IsConnectedTo t p.switch.0 lid × ((side : Side) × Arrives p lid side x))
      (λ lid. where_listed (IsConnectedTo t p.switch.0 lid) (λ x. (side : Side) × Arrives p lid side x) (connected_to_decided t p.switch.0 lid) (of_sides (Arrives p lid) (arrives p lid))) (lids_of t)) t.terminals)
    where
      to : (x : Come) → (p : TerminalRow) × Contains t.terminals p × ((lid : ℕ) × Contains (lids_of t) lid × (IsConnectedTo t p.switch.0 lid × ((side : Side) × Arrives p lid side x))) → IsCome x
      to x s =
          let a : Arrives s.0 s.2.0 s.2.2.1.0 x = s.2.2.1.1 in
          subst IsCome a.2.2 (s.0, a.2.1.0, record { path = record { terminal = s.1; connected = s.2.2.0 }; level = (s.2.2.1.0, a.1); leads = a.2.1.1 })

      back : (x : Come) → IsCome x → (p : TerminalRow) × Contains t.terminals p × ((lid : ℕ) × Contains (lids_of t) lid × (IsConnectedTo t p.switch.0 lid × ((side : Side) × Arrives p lid side x)))
      back x c =
          let walk : IsMixedWalk t m c.0 x.lid x.of_level c.1 x.there = c.2 in (
            c.0,
            walk.path.terminal,
            (
              x.lid,
              connected_in_use t c.0.switch.0 x.lid walk.path.connected,
              (walk.path.connected, (walk.level.0, (x.of_level, walk.level.1, (x.there, (c.1, walk.leads), refl)))),
            ),
          )

  -- ---- faults

  abbrev Faulty : Placed → Type 0
  Faulty x = IsFaultAt t m x.place x.fault

  abbrev Missing : Placed → Type 0
  Missing x =
      (p : TerminalRow) × Contains t.terminals p × ((lid : ℕ) × Contains (lids_of t) lid × ((side : Side) × (LacksLevel t m lid p.switch.0 side × (record { place = 0 ∷ lid ∷ p.switch.0 ∷ side_number side ∷ []; fault = NoLevel (lid_id lid) (switch_id p.switch.0) side } ≡ x))))

  level_decided : (o : Option ℕ) → Decided (o ≡ None)
  level_decided None = inl refl
  level_decided (Some n) = inr (λ e. none-some n (sym e))

  source_decided : (b : Bool) → Decided (b ≡ true)
  source_decided true = inl refl
  source_decided false = inr (λ e. cc)

  missing_decided : (lid s : ℕ) (side : Side) → Decided (LacksLevel t m lid s side)
  missing_decided lid s side =
      equivalent (IsSource t s × (IsConnectedTo t s lid × (level_read (plan_of m side).lanes s lid ≡ None))) (LacksLevel t m lid s side)
      (λ x. record { of_source = x.0; connected = x.1.0; none = x.1.1 }) (λ x. (x.of_source, (x.connected, x.none)))
      (both _ _ (source_decided _) (both _ _ (connected_to_decided t s lid) (level_decided (level_read (plan_of m side).lanes s lid))))

  missing : Listed Missing
  missing =
      some_listed (λ p x. (lid : ℕ) × Contains (lids_of t) lid × ((side : Side) × (LacksLevel t m lid p.switch.0 side × (record { place = 0 ∷ lid ∷ p.switch.0 ∷ side_number side ∷ []; fault = NoLevel (lid_id lid) (switch_id p.switch.0) side } ≡ x))))
      (λ p. some_listed (λ lid x. (side : Side) × (LacksLevel t m lid p.switch.0 side × (record { place = 0 ∷ lid ∷ p.switch.0 ∷ side_number side ∷ []; fault = NoLevel (lid_id lid) (switch_id p.switch.0) side } ≡ x)))
      (λ lid. of_sides (λ side x. LacksLevel t m lid p.switch.0 side × (record { place = 0 ∷ lid ∷ p.switch.0 ∷ side_number side ∷ []; fault = NoLevel (lid_id lid) (switch_id p.switch.0) side } ≡ x))
      (λ side. where_listed (LacksLevel t m lid p.switch.0 side) (λ x. record { place = 0 ∷ lid ∷ p.switch.0 ∷ side_number side ∷ []; fault = NoLevel (lid_id lid) (switch_id p.switch.0) side } ≡ x) (missing_decided lid p.switch.0 side)
      (one_listed (record { place = 0 ∷ lid ∷ p.switch.0 ∷ side_number side ∷ []; fault = NoLevel (lid_id lid) (switch_id p.switch.0) side })))) (lids_of t)) t.terminals

  abbrev lost_at : ℕ → ℕ → Side → End → Placed
  lost_at lid s side end = record { place = 1 ∷ lid ∷ s ∷ side_number side ∷ []; fault = Lost (lid_id lid) (switch_id s) side end }

  abbrev Losing : Come → Side → Placed → Type 0
  Losing x side y = (end : End) × (hop_of t m x.lid side x.there.at ≡ Stop end) × ((end ≢ Delivered) × (lost_at x.lid x.there.at side end ≡ y))

  losing : (x : Come) (side : Side) → Listed (Losing x side)
  losing x side = by (hop_of t m x.lid side x.there.at) refl
    where
      lost : (end : End) → hop_of t m x.lid side x.there.at ≡ Stop end → end ≢ Delivered → Listed (Losing x side)
      lost end is other =
          same_listed (λ y. lost_at x.lid x.there.at side end ≡ y) (Losing x side) (λ y e. (end, is, (other, e)))
          (λ y s. let same : s.0 ≡ end = one_stop s.0 end (sym s.1 ∙ is) in ap (λ (k : End). lost_at x.lid x.there.at side k) (sym same) ∙ s.2.1) (one_listed (lost_at x.lid x.there.at side end))
        where
          one_stop : (a b : End) → Stop a ≡ Stop b → a ≡ b
          one_stop a b e = cc

      by : (h : Hop) → hop_of t m x.lid side x.there.at ≡ h → Listed (Losing x side)
      by (Along c) is = none_listed (Losing x side) (λ y s. let e : Along c ≡ Stop s.0 = sym is ∙ s.1 in cc)
      by (Stop Delivered) is = none_listed (Losing x side) (λ y s. s.2.0 (let e : Stop Delivered ≡ Stop s.0 = sym is ∙ s.1 in cc))
      by (Stop NoEntry) is = lost NoEntry is (λ e. cc)
      by (Stop DeadPort) is = lost DeadPort is (λ e. cc)
      by (Stop Astray) is = lost Astray is (λ e. cc)
      by (Stop Loop) is = lost Loop is (λ e. cc)

  abbrev bad_at : ℕ → ℕ → Side → Placed
  bad_at lid s side = record { place = 2 ∷ lid ∷ s ∷ side_number side ∷ []; fault = BadLane (lid_id lid) (switch_id s) side }

  abbrev Misled : Come → Side → Placed → Type 0
  Misled x side y = (c : ℕ) × MayEnter t m x.lid x.there c × ((bound m ≤ lane_along t m side x.of_level x.there c) × (bad_at x.lid x.there.at side ≡ y))

  not_below_decided : (a b : ℕ) → Decided (a ≤ b)
  not_below_decided a b = elim (cases_lt b a) [ inl less ↦ inr (λ e. omega (arith, less, e)) | inr more ↦ inl more ]

  misled : (x : Come) (side : Side) → Listed (Misled x side)
  misled x side =
      of_listed (MayEnter t m x.lid x.there) (λ c y. (bound m ≤ lane_along t m side x.of_level x.there c) × (bad_at x.lid x.there.at side ≡ y)) (enters x.lid x.of_level x.there)
      (λ c. where_listed (bound m ≤ lane_along t m side x.of_level x.there c) (λ y. bad_at x.lid x.there.at side ≡ y) (not_below_decided (bound m) (lane_along t m side x.of_level x.there c)) (one_listed (bad_at x.lid x.there.at side)))

  abbrev Underway : Placed → Type 0
  Underway y = (x : Come) × IsCome x × ((side : Side) × (Losing x side y ⊎ Misled x side y))

  underway : Listed Underway
  underway = of_listed IsCome (λ x y. (side : Side) × (Losing x side y ⊎ Misled x side y)) comes (λ x. of_sides (λ side y. Losing x side y ⊎ Misled x side y) (λ side. either_listed (Losing x side) (Misled x side) (losing x side) (misled x side)))

  source_there : (s : ℕ) → IsSource t s → (p : TerminalRow) × Contains t.terminals p × (p.switch.0 ≡ s)
  source_there s is = found_source t.terminals s is

  faulty : Listed Faulty
  faulty = same_listed (λ y. Missing y ⊎ Underway y) Faulty to back (either_listed Missing Underway missing underway)
    where
      to : (y : Placed) → Missing y ⊎ Underway y → Faulty y
      to y (inl s) = subst Faulty s.2.2.1.1 (refl, s.2.2.1.0)
      to y (inr (x, come, (side, inl s))) = subst Faulty s.2.1 (refl, record { of_level = x.of_level; from = x.there.from; comes = come; stops = s.1; lost = s.2.0 })
      to y (inr (x, come, (side, inr s))) = subst Faulty s.2.1 (refl, record { of_level = x.of_level; from = x.there.from; channel = s.0; comes = come; enters = s.1; bad = s.2.0 })

      placed : (y : Placed) (place : List ℕ) → y.place ≡ place → record { place = place; fault = y.fault } ≡ y
      placed y place e = ap (λ (p : List ℕ). record { place = p; fault = y.fault }) (sym e)

      back_by : (place : List ℕ) (fault : Mixed) → IsFaultAt t m place fault → Missing (record { place = place; fault = fault }) ⊎ Underway (record { place = place; fault = fault })
      back_by place (Numbers l) f = absurd f
      back_by place (RingMixed ring) f = absurd f
      back_by place (NoLevel lid s side) f =
          let p : (p : TerminalRow) × Contains t.terminals p × (p.switch.0 ≡ s.0) = source_there s.0 f.1.of_source in
          let lacks : LacksLevel t m lid.0 p.0.switch.0 side = subst (λ (k : ℕ). LacksLevel t m lid.0 k side) (sym p.2) f.1 in
          let same : ◌≡◌ {A = Placed} (record { place = 0 ∷ lid.0 ∷ p.0.switch.0 ∷ side_number side ∷ []; fault = NoLevel lid (switch_id p.0.switch.0) side }) (record { place = place; fault = NoLevel lid s side }) =
          ap (λ (k : ℕ). record { place = 0 ∷ lid.0 ∷ k ∷ side_number side ∷ []; fault = NoLevel lid (switch_id k) side }) p.2 ∙ ap (λ (q : List ℕ). record { place = q; fault = NoLevel lid s side }) (sym f.0) in
          inl (p.0, p.1, (lid.0, connected_in_use t s.0 lid.0 f.1.connected, (side, (lacks, same))))
      back_by place (Lost lid s side end) f =
          let x : Come = record { lid = lid.0; of_level = f.1.of_level; there = record { at = s.0; from = f.1.from } } in
          inr (x, f.1.comes, (side, inl (end, f.1.stops, (f.1.lost, ap (λ (q : List ℕ). record { place = q; fault = Lost lid s side end }) (sym f.0)))))
      back_by place (BadLane lid s side) f =
          let x : Come = record { lid = lid.0; of_level = f.1.of_level; there = record { at = s.0; from = f.1.from } } in
          inr (x, f.1.comes, (side, inr (f.1.channel, f.1.enters, (f.1.bad, ap (λ (q : List ℕ). record { place = q; fault = BadLane lid s side }) (sym f.0)))))

      back : (y : Placed) → Faulty y → Missing y ⊎ Underway y
      back y f = back_by y.place y.fault f

  answers_first : (place : List ℕ) (fault : Mixed) → IsFaultAt t m place fault → ((earlier : List ℕ) (other : Mixed) → IsBefore earlier place → ¬ IsFaultAt t m earlier other) → IsAnswerTo t m fault
  answers_first place (Numbers l) f none = absurd f
  answers_first place (RingMixed ring) f none = absurd f
  answers_first place (NoLevel lid s side) f none = (place, f, none)
  answers_first place (Lost lid s side end) f none = (place, f, none)
  answers_first place (BadLane lid s side) f none = (place, f, none)

  -- ---- dependencies

  abbrev UsedBy : ℕ → Type 0
  UsedBy n = (x : Come) × IsCome x × ((v : VirtualChannel) × MayTake t m x.lid x.of_level x.there v × (node_of (bound m) v ≡ n))

  used_by : Listed UsedBy
  used_by =
      of_listed IsCome (λ x n. (v : VirtualChannel) × MayTake t m x.lid x.of_level x.there v × (node_of (bound m) v ≡ n)) comes
      (λ x. of_listed (MayTake t m x.lid x.of_level x.there) (λ v n. node_of (bound m) v ≡ n) (takes x.lid x.of_level x.there) (λ v. one_listed (node_of (bound m) v)))

  abbrev InTurn : ℕ × ℕ → Type 0
  InTurn y =
      (x : Come) × IsCome x × ((v : VirtualChannel) × MayTake t m x.lid x.of_level x.there v
      × ((w : VirtualChannel) × MayTake t m x.lid x.of_level (standing_after t v.channel.0) w × ((node_of (bound m) v, node_of (bound m) w) ≡ y)))

  in_turn : Listed InTurn
  in_turn =
      of_listed IsCome (λ x y. (v : VirtualChannel) × MayTake t m x.lid x.of_level x.there v × ((w : VirtualChannel) × MayTake t m x.lid x.of_level (standing_after t v.channel.0) w × ((node_of (bound m) v, node_of (bound m) w) ≡ y))) comes
      (λ x. of_listed (MayTake t m x.lid x.of_level x.there) (λ v y. (w : VirtualChannel) × MayTake t m x.lid x.of_level (standing_after t v.channel.0) w × ((node_of (bound m) v, node_of (bound m) w) ≡ y)) (takes x.lid x.of_level x.there)
      (λ v. of_listed (MayTake t m x.lid x.of_level (standing_after t v.channel.0)) (λ w y. (node_of (bound m) v, node_of (bound m) w) ≡ y) (takes x.lid x.of_level (standing_after t v.channel.0)) (λ w. one_listed (node_of (bound m) v, node_of (bound m) w))))

  size : ℕ
  size = length t.channels * bound m

  is_marked : ℕ → Bool
  is_marked n = tells (contains_decided used_by.list n)

  collected : Collected
  collected = record { used = map is_marked (range_with_len 0 size); pairs = in_turn.list }

  node_within : (lid of_level : ℕ) (here : Standing) (v : VirtualChannel) → MayTake t m lid of_level here v → node_of (bound m) v < length t.channels * bound m
  node_within lid of_level here v may = node_low (length t.channels) (bound m) v.channel.0 v.lane (low lid of_level here v may) may.good

  are_dependencies : AreDependencies t m collected
  unfolding collected size is_marked
  are_dependencies = record {
    each = length-map-range_with_len is_marked 0 size;
    used_by = by_mark;
    used = marked;
    pairs = λ a b. (to_graph a b, from_graph a b);
  }
    where
      by_mark : (n : ℕ) → IsMarked collected n → (v : VirtualChannel) × IsOnMixedWalk t m v × (node_of (bound m) v ≡ n)
      by_mark n mark = elim (cases_lt n size) [
        | inr past ↦ (let e : false ≡ true = sym (get_or_past collected.used n false (omega (arith, length-map-range_with_len is_marked 0 size, past))) ∙ mark in cc)
        | inl here ↦
            (let s : UsedBy n = used_by.only n (told (contains_decided used_by.list n) (sym (get_or-map-range_with_len is_marked 0 size n n false here (omega arith)) ∙ mark)) in
            (s.2.0, on_walk t m s.0.lid s.0.of_level s.0.there s.2.0 s.1 s.2.1, s.2.2))
      ]

      marked : (v : VirtualChannel) → IsOnMixedWalk t m v → IsMarked collected (node_of (bound m) v)
      marked v on =
          let x : (lid of_level : ℕ) × IsTakenOn t m lid (record { hop = v; level = of_level }) = taken_on_walk t m v on in
          let n : ℕ = node_of (bound m) v in
          let here : n < size = node_within x.0 x.1 x.2.0 v x.2.2 in
          get_or-map-range_with_len is_marked 0 size n n false here (omega arith)
          ∙ told_so (contains_decided used_by.list n) (used_by.all n (record { lid = x.0; of_level = x.1; there = x.2.0 }, x.2.1, (v, x.2.2, refl)))

      to_graph : (a b : ℕ) → IsEdge in_turn.list a b → DependsMixedByNode t m a b
      to_graph a b edge =
          let s : InTurn (a, b) = in_turn.only (a, b) edge in
          let d : DependsMixed t m s.2.0 s.2.2.0 = depends_next t m s.0.lid s.0.of_level s.0.there s.2.0 s.2.2.0 s.1 s.2.1 s.2.2.1 in
          (s.2.0, s.2.2.0, d, ap (λ (y : ℕ × ℕ). y.0) s.2.2.2, ap (λ (y : ℕ × ℕ). y.1) s.2.2.2)

      from_graph : (a b : ℕ) → DependsMixedByNode t m a b → IsEdge in_turn.list a b
      from_graph a b d =
          let x : (lid of_level : ℕ) × IsTakenOn t m lid (record { hop = d.0; level = of_level }) × MayTake t m lid of_level (standing_after t d.0.channel.0) d.1 = taken_in_turn t m d.0 d.1 d.2 in
          in_turn.all (a, b) (record { lid = x.0; of_level = x.1; there = x.2.0 }, x.2.1, (d.0, x.2.2, (d.1, x.3, ap (λ (k : ℕ). (k, node_of (bound m) d.1)) d.3 ∙ ap (λ (k : ℕ). (a, k)) d.4)))

  from_low : (a b : ℕ) → IsEdge in_turn.list a b → a < length t.channels * bound m
  from_low a b edge = let s : InTurn (a, b) = in_turn.only (a, b) edge in omega (arith, ap (λ (y : ℕ × ℕ). y.0) s.2.2.2, node_within s.0.lid s.0.of_level s.0.there s.2.0 s.2.1)

  to_low : (a b : ℕ) → IsEdge in_turn.list a b → b < length t.channels * bound m
  to_low a b edge = let s : InTurn (a, b) = in_turn.only (a, b) edge in omega (arith, ap (λ (y : ℕ × ℕ). y.1) s.2.2.2, node_within s.0.lid s.0.of_level (standing_after t s.2.0.channel.0) s.2.2.0 s.2.2.1)

-- ---- numbers that are given are small

small_if : (b : Bool) (m n : ℕ) → m < n → (if b then m else 0) < n
small_if true m n low = low
small_if false m n low = omega (arith, low)

small_at : (levels : List ℕ) (n bound : ℕ) → slice_index_or levels n 1 < bound → slice_index_or levels n 0 < bound
small_at levels n bound low = elim (cases_lt n (length levels)) [
  | inl there ↦ omega (arith, get_or_default levels n 0 1 there, low)
  | inr past ↦ omega (arith, get_or_past levels n 0 past, low)
]

given_small : (count : ℕ) (c : Collected) (levels : List ℕ) (bound : ℕ) → ((n : ℕ) → slice_index_or levels n 1 < bound) → (v : VirtualChannel) → number_given count c levels v < bound
given_small count c levels bound low v =
    let node : ℕ = node_of count v in
    let zero_low : 0 < bound = omega (arith, low 0) in
    small_if (nat_lt v.lane count) (if slice_index_or c.used node false then slice_index_or levels node 0 else 0) bound
    (small_if (slice_index_or c.used node false) (slice_index_or levels node 0) bound (small_at levels node bound (low node)))

module _ (t : Topology) (m : Change) (fabric : IsFabric t) (before : PlanFits t m.before) (after : PlanFits t m.after) where
  counted : (o : Option LaneTables) → IfSome o (LanesFit t) → (0 < count_read o) × (count_read o ≤ 15)
  counted None fits = (omega arith, omega arith)
  counted (Some l) fits = fits.whole.count

  bounded : (0 < bound m) × (bound m ≤ 15)
  bounded =
      let a : (0 < count_read m.before.lanes) × (count_read m.before.lanes ≤ 15) = counted m.before.lanes before.lanes in
      let b : (0 < count_read m.after.lanes) × (count_read m.after.lanes ≤ 15) = counted m.after.lanes after.lanes in
      (omega (arith, a.0, b.0), omega (arith, a.1, b.1))

  size_small : suc (length t.channels * bound m) < 2 ^ 32
  size_small = omega (arith, fabric.rows.channel_count, mul-le-mul_left (length t.channels) bounded.1)

  whole : AreLaneTables (bare_lanes t m)
  whole = new_kept (bound m) (length t.switches) (length t.channels) (lids_of t) bounded (lids_are t fabric)

  numbered : IsAcyclic (IsEdge (in_turn t m).list) → (new : LaneTables) × IsNumberedBy (IsOnMixedWalk t m) (DependsMixed t m) (bare_lanes t m) new
  unfolding collected
  numbered acyclic =
      let es : List (ℕ × ℕ) = (in_turn t m).list in
      let n : ℕ = length t.channels * bound m in
      let ns : List ℕ = levels es n (from_low t m) acyclic (to_low t m) in
      let low : (k : ℕ) → slice_index_or ns k 1 < 2 ^ 32 = λ k. omega (arith, listed_low es n (from_low t m) acyclic (to_low t m) k, size_small) in
      let c : Collected = record { used = (collected t m).used; pairs = es } in
      let set : (new : LaneTables) × HasNumbers c ns (bare_lanes t m) new = numbers_exist c ns (bare_lanes t m) whole (given_small (bound m) c ns (2 ^ 32) low) in
      (set.0, is_numbered t m bounded.1 set.0 c ns are (node_levels es n (from_low t m) acyclic (to_low t m)) set.1)
    where
      are : AreDependencies t m (record { used = (collected t m).used; pairs = (in_turn t m).list })
      are = are_dependencies t m

  by_ring : HasNoFault t m → ((ring : List ℕ) × IsFirstRing (IsEdge (in_turn t m).list) ring) ⊎ IsAcyclic (IsEdge (in_turn t m).list) → (x : Mixed) × IsAnswerTo t m x
  unfolding collected
  by_ring none (inl ring) = (RingMixed ring.0, (none, mixed_ring t m (record { used = (collected t m).used; pairs = (in_turn t m).list }) (in_turn t m).list ring.0 are refl ring.1))
    where
      are : AreDependencies t m (record { used = (collected t m).used; pairs = (in_turn t m).list })
      are = are_dependencies t m
  by_ring none (inr acyclic) = let new : (new : LaneTables) × IsNumberedBy (IsOnMixedWalk t m) (DependsMixed t m) (bare_lanes t m) new = numbered acyclic in (Numbers new.0, (none, new.1))

  answered : (x : Mixed) × IsAnswerTo t m x
  answered = elim (first_in (λ (q : Placed). q.place) (faulty t m).list) [
    | inl f ↦ (f.0.fault, answers_first t m f.0.place f.0.fault ((faulty t m).only f.0 f.1) (λ earlier other sooner stands. f.2 (record { place = earlier; fault = other }) ((faulty t m).all (record { place = earlier; fault = other }) stands) sooner))
    | inr none ↦ by_ring (λ place fault stands. none (record { place = place; fault = fault }) ((faulty t m).all (record { place = place; fault = fault }) stands)) (ring_or_acyclic (in_turn t m).list)
  ]

pub mixed_exists : (t : Topology) (m : Change) → IsFabric t → PlanFits t m.before → PlanFits t m.after → (x : Mixed) × IsAnswerTo t m x
mixed_exists t m fabric before after = answered t m fabric before after
