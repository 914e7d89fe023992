-- Numbers on a change make it safe: they rise, one that can't go on is delivered, and no packets wait for each other.
use Rattle.std.proofs.Common.{◌≡◌, ◌≢◌, ℕ, zero, suc, ◌+◌, ◌-◌, ◌<◌, ◌≤◌, List, [], ◌∷◌, refl, ap, arith, Some, None, Option, ◌⊎◌, inl, inr}
use Rattle.std.specs.Prelude.{Contains, slice_get}
use Rattle.fab_graph.specs.Walks.{Rises}
use Rattle.fab_model.specs.declared.rows.TerminalRow.{TerminalRow}
use Rattle.fab_model.specs.Topology.{Topology, switch_id, lid_id}
use Rattle.fab_tables.specs.declared.end.End.{End}
use Rattle.fab_tables.specs.declared.end.End.TheVariants.{Delivered, NoEntry, DeadPort, Astray, Loop}
use Rattle.fab_tables.specs.declared.verdict.VirtualChannel.{VirtualChannel}
use Rattle.fab_tables.specs.LaneTables.{LaneTables}
use Rattle.fab_tables.specs.Route.{Hop, Along, Stop}
use Rattle.fab_tables.specs.VirtualChannels.{virtual_channel, Follow}
use Rattle.fab_tables.specs.Certified.{number_of}
use Rattle.fab_tables.proofs.Verdicts.CertifiedLaws.{contains_of}
use Rattle.fab_tables.proofs.Verdicts.DeadlockLaws.{some_at, rise, total, at_most_total, has_first}
use Rattle.fab_certify.specs.Numbered.{IsNumberedBy}
use Rattle.fab_transit.specs.declared.mixed.Side.{Side}
use Rattle.fab_transit.specs.declared.mixed.Mixed.TheVariants.{Lost, BadLane}
use Rattle.fab_transit.specs.MixedWalks.{Change, bound, Standing, hop_of, lane_along, MayTake, IsMixedWalk, IsOnMixedWalk, DependsMixed}
use Rattle.fab_transit.specs.Answers.{HasNoFault, bare_lanes, side_number}
use Rattle.fab_transit.specs.Safe.{MixedPacket, Holds, Awaits, IsDeadlocked}

-- ---- numbers rise

pub numbers_rise : (t : Topology) (m : Change) (l : LaneTables) → IsNumberedBy (IsOnMixedWalk t m) (DependsMixed t m) (bare_lanes t m) l →
    Rises (number_of l) (DependsMixed t m)
numbers_rise t m l numbered v w d =
    let vs : List VirtualChannel = d.3 in
    let follow : Follow vs v w = d.6 in
    let on_v : IsOnMixedWalk t m v = (d.0, d.1, d.2, vs, d.4, d.5, contains_of vs follow.0 v follow.1) in
    let on_w : IsOnMixedWalk t m w = (d.0, d.1, d.2, vs, d.4, d.5, contains_of vs (suc follow.0) w follow.2) in
    omega (arith, numbered.levels.above v w d, numbered.numbers v on_v, numbered.numbers w on_w)

-- ---- one that can't go on is delivered

pub below_or_not : (a b : ℕ) → (a < b) ⊎ (b ≤ a)
below_or_not zero zero = inr (omega arith)
below_or_not zero (suc b) = inl (omega arith)
below_or_not (suc a) zero = inr (omega arith)
below_or_not (suc a) (suc b) = elim (below_or_not a b) [ inl h ↦ inl (omega (arith, h)) | inr h ↦ inr (omega (arith, h)) ]

no_entry : NoEntry ≢ Delivered
no_entry e = cc

dead_port : DeadPort ≢ Delivered
dead_port e = cc

astray : Astray ≢ Delivered
astray e = cc

loop : Loop ≢ Delivered
loop e = cc

module _ (t : Topology) (m : Change) (good : HasNoFault t m) (p : TerminalRow) (lid of_level : ℕ) (vs : List VirtualChannel) (there : Standing)
    (walk : IsMixedWalk t m p lid of_level vs there) (stays : (v : VirtualChannel) → ¬ MayTake t m lid of_level there v) (side : Side) where
  lost_else : (end : End) → hop_of t m lid side there.at ≡ Stop end → end ≢ Delivered → ⊥
  lost_else end e differs = good (1 ∷ lid ∷ there.at ∷ side_number side ∷ []) (Lost (lid_id lid) (switch_id there.at) side end)
      (refl, record { of_level = of_level; from = there.from; comes = (p, vs, walk); stops = e; lost = differs })

  goes_on : (c : ℕ) → hop_of t m lid side there.at ≡ Along c →
      (lane_along t m side of_level there c < bound m) ⊎ (bound m ≤ lane_along t m side of_level there c) → ⊥
  goes_on c e (inl h) = stays (virtual_channel c (lane_along t m side of_level there c)) (record { enters = (side, e); map_side = side; mapped = refl; good = h })
  goes_on c e (inr h) = good (2 ∷ lid ∷ there.at ∷ side_number side ∷ []) (BadLane (lid_id lid) (switch_id there.at) side)
      (refl, record { of_level = of_level; from = there.from; channel = c; comes = (p, vs, walk); enters = (side, e); bad = h })

  by_hop : (h : Hop) → hop_of t m lid side there.at ≡ h → h ≡ Stop Delivered
  by_hop (Along c) e = absurd (goes_on c e (below_or_not (lane_along t m side of_level there c) (bound m)))
  by_hop (Stop Delivered) e = refl
  by_hop (Stop NoEntry) e = absurd (lost_else NoEntry e no_entry)
  by_hop (Stop DeadPort) e = absurd (lost_else DeadPort e dead_port)
  by_hop (Stop Astray) e = absurd (lost_else Astray e astray)
  by_hop (Stop Loop) e = absurd (lost_else Loop e loop)

pub delivered_there : (t : Topology) (m : Change) → HasNoFault t m → (p : TerminalRow) (lid of_level : ℕ) (vs : List VirtualChannel) (there : Standing) →
    IsMixedWalk t m p lid of_level vs there → ((v : VirtualChannel) → ¬ MayTake t m lid of_level there v) → (side : Side) →
    hop_of t m lid side there.at ≡ Stop Delivered
delivered_there t m good p lid of_level vs there walk stays side = by_hop t m good p lid of_level vs there walk stays side (hop_of t m lid side there.at) refl

-- ---- no packets wait for each other: each waits for a greater number than one that some packet waits for

number_or_0 : {A : Type 0} → (A → ℕ) → Option A → ℕ
number_or_0 number None = 0
number_or_0 number (Some a) = number a

module _ (t : Topology) (m : Change) (number : VirtualChannel → ℕ) (rises : Rises number (DependsMixed t m)) (packets : List MixedPacket)
    (dead : IsDeadlocked t m packets) where
  awaited : MixedPacket → ℕ
  awaited p = number_or_0 number (slice_get p.hops (suc p.last))

  awaited_is : (p : MixedPacket) (v : VirtualChannel) → Awaits p v → awaited p ≡ number v
  unfolding awaited number_or_0
  awaited_is p v a = ap (number_or_0 number) a

  chase : (n : ℕ) (p : MixedPacket) → Contains packets p → total awaited packets < awaited p + n → ⊥
  chase zero p c h = omega (arith, at_most_total awaited packets p c.0 c.1 c.2)
  chase (suc n) p c h =
      let v : (a : VirtualChannel) × Awaits p a = some_at p.hops (suc p.last) (dead.waiting p c).next in
      let by : (q : MixedPacket) × Contains packets q × Holds q v.0 = dead.held p v.0 c v.1 in
      let w : (a : VirtualChannel) × Awaits by.0 a = some_at by.0.hops (suc by.0.last) (dead.waiting by.0 by.1).next in
      let up : number v.0 < number w.0 = rise number by.0.hops
      (λ a b f. rises a b (by.0.terminal, by.0.lid, by.0.of_level, by.0.hops, by.0.there, (dead.waiting by.0 by.1).walk, f))
      (by.0.last - by.2.0) by.2.0 (suc by.0.last) v.0 w.0 (omega (arith, by.2.2)) by.2.3 w.1 in
      chase n by.0 by.1 (omega (arith, awaited_is p v.0 v.1, awaited_is by.0 w.0 w.1))

  none : ⊥
  none = let p : (q : MixedPacket) × Contains packets q = has_first packets dead.some in chase (suc (total awaited packets)) p.0 p.1 (omega arith)

pub free_of_deadlock : (t : Topology) (m : Change) (number : VirtualChannel → ℕ) → Rises number (DependsMixed t m) → (packets : List MixedPacket) →
    ¬ IsDeadlocked t m packets
free_of_deadlock t m number rises packets dead = none t m number rises packets dead
