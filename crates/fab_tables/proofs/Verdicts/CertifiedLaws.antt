-- A plan has the verdict Lanes exactly where it is certified, and Routes exactly where it has no lanes and reaches.
use Rattle.std.proofs.Common.{◌≡◌, ◌≢◌, ℕ, zero, suc, ◌<◌, Bool, true, false, List, [], ◌∷◌, length, refl, sym, ◌∙◌, ap, subst, arith, Some, None, Option, ◌⊎◌, inl, inr}
use Rattle.std.proofs.lemmas.Bool.{cases_lt, ltb-true}
use Rattle.std.proofs.lemmas.Option.{cond_some}
use Rattle.std.specs.Prelude.{Contains, slice_get, slice_index_or, IsSome, is_some, nat_lt, ◌==◌, ◌||◌, if◌then◌else◌}
use Rattle.std.specs.List.{position_or_len}
use Rattle.fab_model.specs.declared.rows.ChannelRow.{ChannelRow}
use Rattle.fab_model.specs.declared.rows.TerminalRow.{TerminalRow}
use Rattle.fab_model.specs.Topology.{Topology, channel_at, terminal_at, place_of, leaves_by, switch_id, lid_id}
use Rattle.fab_model.specs.Connected.{IsConnectedTo}
use Rattle.fab_tables.specs.declared.end.End.{End}
use Rattle.fab_tables.specs.declared.end.End.TheVariants.{Delivered, NoEntry, DeadPort, Astray, Loop}
use Rattle.fab_tables.specs.declared.verdict.VirtualChannel.{VirtualChannel}
use Rattle.fab_tables.specs.declared.verdict.Verdict.{Verdict}
use Rattle.fab_tables.specs.declared.verdict.Verdict.TheVariants.{Routes, Lanes, Unreached, NoLevel, BadLane, NoNumber, NotRising}
use Rattle.fab_tables.specs.declared.plan.Plan.{Plan}
use Rattle.fab_tables.specs.Entries.{Entries, entry}
use Rattle.fab_tables.specs.LaneTables.{LaneTables, level}
use Rattle.fab_tables.specs.Fit.{IsSource}
use Rattle.fab_tables.specs.Route.{Hop, Route, is_place, along_or_stop, hop_by, tip, after_hop, route_within, route}
use Rattle.fab_tables.specs.Route.Hop.{Along, Stop}
use Rattle.fab_tables.specs.VirtualChannels.{virtual_channels, on_channels, at_level, arrival, Follow}
use Rattle.fab_tables.specs.Dependencies.{IsPath, IsUsed}
use Rattle.fab_tables.specs.Certified.{Reaches, HasRisingNumbers, IsCertified, number_of}
use Rattle.fab_tables.specs.Verdicts.{IsLaneFaultAt, IsFaultAt, IsHop, IsVerdict, Leaves}
use Rattle.fab_tables.specs.Laws.{LanesIsCertified, RoutesReaches}
use Rattle.fab_tables.proofs.Verdicts.DeadlockLaws.{some_at}
use Rattle.fab_tables.proofs.Verdicts.PlainLaws.{source_of, terminal_of}

-- elements and their places
pub get_of : {A : Type 0} (xs : List A) (k : ℕ) (a : A) → k < length xs → slice_index_or xs k a ≡ a → slice_get xs k ≡ Some a
get_of [] k a h e = absurd (omega arith)
get_of (x ∷ xs) zero a h e = ap (λ y. Some y) e
get_of (x ∷ xs) (suc k) a h e = get_of xs k a (omega arith) e

pub unsome : {A : Type 0} (a b : A) → Some a ≡ Some b → a ≡ b
unsome a b e = cc

pub none_some : {A : Type 0} (a : A) → None ≡ Some a → ⊥
none_some a e = cc

pub contains_of : {A : Type 0} (xs : List A) (k : ℕ) (a : A) → slice_get xs k ≡ Some a → Contains xs a
contains_of [] k a e = absurd (none_some a e)
contains_of (x ∷ xs) zero a e = (0, omega arith, unsome x a e)
contains_of (x ∷ xs) (suc k) a e = let c : Contains xs a = contains_of xs k a e in (suc c.0, omega (arith, c.1), c.2)

-- the channels of a route are channels of the fabric
channel_there : (t : Topology) (s port c : ℕ) → channel_at t s port ≡ Some c → c < length t.channels
channel_there t s port c e =
    let found : (nat_lt (position_or_len (leaves_by s port) t.channels) (length t.channels) ≡ true) × (position_or_len (leaves_by s port) t.channels ≡ c) = cond_some _ _ c e in
    omega (arith, ltb-true _ _ found.0, found.1)

abbrev AlongIsThere : Topology → Hop → Type 0
AlongIsThere t (Stop e) = Unit {0}
AlongIsThere t (Along c) = c < length t.channels

past_there : (t : Topology) (s port : ℕ) (o : Option ℕ) → channel_at t s port ≡ o → AlongIsThere t (along_or_stop t s port o)
past_there t s port (Some c) e = channel_there t s port c e
past_there t s port None e = stops ((port == 0) || is_some (terminal_at t s port))
  where
    stops : (b : Bool) → AlongIsThere t (if b then Stop Astray else Stop DeadPort)
    stops true = tt
    stops false = tt

hop_there : (t : Topology) (lid s port : ℕ) → AlongIsThere t (hop_by t lid s port)
hop_there t lid s port = first (port == 255)
  where
    second : (b : Bool) → AlongIsThere t (if b then Stop Delivered else along_or_stop t s port (channel_at t s port))
    second true = tt
    second false = past_there t s port (channel_at t s port) refl

    first : (b : Bool) → AlongIsThere t (if b then Stop NoEntry else if is_place (place_of t lid) s port then Stop Delivered else along_or_stop t s port (channel_at t s port))
    first true = tt
    first false = second (is_place (place_of t lid) s port)

abbrev AreThere : Topology → Route → Type 0
AreThere t r = (k c : ℕ) → slice_get r.channels k ≡ Some c → c < length t.channels

after_there : (t : Topology) (rest : ℕ → Route) (h : Hop) → ((s : ℕ) → AreThere t (rest s)) → AlongIsThere t h → AreThere t (after_hop t rest h)
after_there t rest (Stop e) all there k c e' = absurd (none_some c e')
after_there t rest (Along d) all there zero c e = omega (arith, unsome d c e, there)
after_there t rest (Along d) all there (suc k) c e = all (tip t d) k c e

pub route_there : (t : Topology) (e : Entries) (lid n s : ℕ) → AreThere t (route_within t e lid n s)
route_there t e lid zero s = λ k c x. absurd (none_some c x)
route_there t e lid (suc n) s = after_there t (λ next. route_within t e lid n next) (hop_by t lid s (entry e s lid)) (λ next. route_there t e lid n next) (hop_there t lid s (entry e s lid))

channel_of_hop : (t : Topology) (l : LaneTables) (of_level from : ℕ) (cs : List ℕ) (k : ℕ) (v : VirtualChannel) → slice_get (on_channels t l of_level from cs) k ≡ Some v → slice_get cs k ≡ Some v.channel.0
channel_of_hop t l of_level from [] k v e = absurd (none_some v e)
channel_of_hop t l of_level from (c ∷ cs) zero v e = ap (λ (w : VirtualChannel). Some w.channel.0) (unsome _ v e)
channel_of_hop t l of_level from (c ∷ cs) (suc k) v e = channel_of_hop t l of_level (arrival (slice_get t.channels c)) cs k v e

-- the channel of a virtual channel stands at the same place of the route
pub channel_of_virtual : (t : Topology) (e : Entries) (l : LaneTables) (p : TerminalRow) (lid k : ℕ) (v : VirtualChannel) →
    slice_get (virtual_channels t e l p lid) k ≡ Some v → slice_get (route t e p.switch.0 lid).channels k ≡ Some v.channel.0
channel_of_virtual t e l p lid k v at = go (level l p.switch.0 lid) at
  where
    go : (o : Option ℕ) → slice_get (at_level t l p.port ((route t e p.switch.0 lid).channels) o) k ≡ Some v → slice_get (route t e p.switch.0 lid).channels k ≡ Some v.channel.0
    go None x = absurd (none_some v x)
    go (Some of_level) x = channel_of_hop t l of_level p.port ((route t e p.switch.0 lid).channels) k v x

hop_channel : (t : Topology) (e : Entries) (l : LaneTables) (p : TerminalRow) (lid k : ℕ) (v : VirtualChannel) → slice_get (virtual_channels t e l p lid) k ≡ Some v → v.channel.0 < length t.channels
hop_channel t e l p lid k v x = route_there t e lid (length t.switches) p.switch.0 k v.channel.0 (channel_of_virtual t e l p lid k v x)

-- so each hop leaves a switch
pub leaves : (t : Topology) (e : Entries) (l : LaneTables) (p : TerminalRow) (lid k : ℕ) (v : VirtualChannel) →
    slice_get (virtual_channels t e l p lid) k ≡ Some v → (c : ChannelRow) × Leaves t v c.tail
leaves t e l p lid k v x =
    let row : (c : ChannelRow) × (slice_get t.channels v.channel.0 ≡ Some c) = some_at t.channels v.channel.0 (hop_channel t e l p lid k v x) in
    (row.0, (row.0, row.1, refl))

-- the hops of two terminals at one port are the same
pub same_terminal : (t : Topology) (e : Entries) (l : LaneTables) (p q : TerminalRow) (lid : ℕ) → p.switch.0 ≡ q.switch.0 → p.port ≡ q.port → virtual_channels t e l p lid ≡ virtual_channels t e l q lid
same_terminal t e l p q lid a b =
    ap (λ s. at_level t l p.port ((route t e s lid).channels) (level l s lid)) a ∙ ap (λ port. at_level t l port ((route t e q.switch.0 lid).channels) (level l q.switch.0 lid)) b

-- decided facts
end_cases : (x : End) → (x ≡ Delivered) ⊎ (x ≢ Delivered)
end_cases Delivered = inl refl
end_cases NoEntry = inr (λ e. cc)
end_cases DeadPort = inr (λ e. cc)
end_cases Astray = inr (λ e. cc)
end_cases Loop = inr (λ e. cc)

reaching : (t : Topology) (e : Entries) (lanes : Option LaneTables) → ((place : List ℕ) (fault : Verdict) → ¬ IsFaultAt t e lanes place fault) → Reaches t e
reaching t e lanes none s lid connected =
    elim (end_cases ((route t e s lid).end)) [
      | inl x ↦ x
      | inr y ↦
          absurd (none (0 ∷ lid ∷ s ∷ []) (Unreached (lid_id lid) (switch_id s) ((route t e s lid).end)) (refl, connected, refl, y))
    ]

module _ (t : Topology) (e : Entries) (l : LaneTables) (none : (place : List ℕ) (fault : Verdict) → ¬ IsFaultAt t e (Some l) place fault) where
  lane_none : (place : List ℕ) (lid source : ℕ) → IsSource t source → IsConnectedTo t source lid → level l source lid ≡ None → ⊥
  lane_none place lid source a b c = none (1 ∷ lid ∷ source ∷ []) (NoLevel (lid_id lid) (switch_id source)) (l, refl, (refl, a, b, c))

  levelled : (p : TerminalRow) (lid : ℕ) → IsPath t p lid → (o : Option ℕ) → level l p.switch.0 lid ≡ o → IsSome o
  levelled p lid path (Some n) x = refl
  levelled p lid path None x = absurd (lane_none [] lid p.switch.0 (source_of t.terminals p path.terminal.0 path.terminal.1 path.terminal.2) path.connected x)

  hop_of : (p : TerminalRow) (lid k : ℕ) (v : VirtualChannel) → IsPath t p lid → slice_get (virtual_channels t e l p lid) k ≡ Some v → IsHop t e l lid p.switch.0 p.port k v
  hop_of p lid k v path x = record { terminal = p; path = path; of_source = refl; at_port = refl; at_hop = x }

  lane_below : (p : TerminalRow) (lid k : ℕ) (v : VirtualChannel) → IsPath t p lid → slice_get (virtual_channels t e l p lid) k ≡ Some v → v.lane < l.count
  lane_below p lid k v path x =
      let c : (c : ChannelRow) × Leaves t v c.tail = leaves t e l p lid k v x in
      elim (cases_lt v.lane l.count) [
        | inl a ↦ a
        | inr b ↦
            absurd (none (1 ∷ lid ∷ p.switch.0 ∷ p.port ∷ k ∷ 0 ∷ []) (BadLane (lid_id lid) p.switch c.0.tail) (l, refl, (p.port, k, v, refl, hop_of p lid k v path x, c.1, b)))
      ]

  number_there : (p : TerminalRow) (lid k : ℕ) (v : VirtualChannel) → IsPath t p lid → slice_get (virtual_channels t e l p lid) k ≡ Some v → 0 < number_of l v
  number_there p lid k v path x = elim (cases_lt 0 (number_of l v)) [
    | inl a ↦ a
    | inr b ↦
        absurd (none (1 ∷ lid ∷ p.switch.0 ∷ p.port ∷ k ∷ 1 ∷ []) (NoNumber (lid_id lid) p.switch v) (l, refl, (p.port, k, refl, hop_of p lid k v path x, omega (arith, b))))
  ]

  rising : (p : TerminalRow) (lid k : ℕ) (v w : VirtualChannel) → IsPath t p lid → slice_get (virtual_channels t e l p lid) k ≡ Some v → slice_get (virtual_channels t e l p lid) (suc k) ≡ Some w → number_of l v < number_of l w
  rising p lid k v w path x y = elim (cases_lt (number_of l v) (number_of l w)) [
    | inl a ↦ a
    | inr b ↦
        absurd (none (1 ∷ lid ∷ p.switch.0 ∷ p.port ∷ suc k ∷ 2 ∷ []) (NotRising (lid_id lid) p.switch v w (number_of l v) (number_of l w))
        (l, refl, (p.port, k, refl, hop_of p lid k v path x, hop_of p lid (suc k) w path y, refl, refl, b)))
  ]

  rises : HasRisingNumbers t e l
  rises = record {
    level = λ p lid path. levelled p lid path (level l p.switch.0 lid) refl;
    lane = λ v u. lane_below u.0 u.1 u.3.0 v u.2 (get_of _ u.3.0 v u.3.1 u.3.2);
    number = λ v u. number_there u.0 u.1 u.3.0 v u.2 (get_of _ u.3.0 v u.3.1 u.3.2);
    rises = λ v w d. rising d.0 d.1 d.3.0 v w d.2 d.3.1 d.3.2;
  }

has_lanes : (o : Option LaneTables) → IsSome o → (l : LaneTables) × (o ≡ Some l)
has_lanes None h = absurd (false_true h)
  where
    false_true : false ≡ true → ⊥
    false_true x = cc
has_lanes (Some l) h = (l, refl)

certified_of : (t : Topology) (p : Plan) → IsVerdict t p.tables p.lanes Lanes → IsCertified t p
certified_of t p v =
    let l : (l : LaneTables) × (p.lanes ≡ Some l) = has_lanes p.lanes v.0 in
    (l.0, l.1, reaching t p.tables p.lanes v.1, rises t p.tables l.0 (subst (λ o. (place : List ℕ) (fault : Verdict) → ¬ IsFaultAt t p.tables o place fault) l.1 v.1))

-- the other direction: in a certified plan no fault stands at any place
module _ (t : Topology) (e : Entries) (l : LaneTables) (reaches : Reaches t e) (good : HasRisingNumbers t e l) where
  used_at : (lid source port k : ℕ) (v : VirtualChannel) → IsHop t e l lid source port k v → IsUsed t e l v
  used_at lid source port k v h = (h.terminal, lid, h.path, contains_of _ k v h.at_hop)

  no_lane_fault : (place : List ℕ) (fault : Verdict) → IsLaneFaultAt t e l place fault → ⊥
  no_lane_fault place Routes f = f
  no_lane_fault place Lanes f = f
  no_lane_fault place (Unreached lid s end) f = f
  no_lane_fault place (NoLevel lid source) f =
      let q : (p : TerminalRow) × Contains t.terminals p × (p.switch.0 ≡ source.0) = terminal_of t.terminals source.0 f.1 in
      some_and_none (level l source.0 lid.0) (subst (λ s. IsSome (level l s lid.0)) q.2 (good.level q.0 lid.0 (record { terminal = q.1; connected = subst (λ s. IsConnectedTo t s lid.0) (sym q.2) f.2 }))) f.3
    where
      some_and_none : (o : Option ℕ) → IsSome o → o ≡ None → ⊥
      some_and_none None a b = cc
      some_and_none (Some n) a b = cc
  no_lane_fault place (BadLane lid source at) f = omega (arith, f.6, good.lane f.2 (used_at lid.0 source.0 f.0 f.1 f.2 f.4))
  no_lane_fault place (NoNumber lid source at) f = omega (arith, f.4, good.number at (used_at lid.0 source.0 f.0 f.1 at f.3))
  no_lane_fault place (NotRising lid source first second m n) f =
      let a : IsHop t e l lid.0 source.0 f.0 f.1 first = f.3 in
      let b : IsHop t e l lid.0 source.0 f.0 (suc f.1) second = f.4 in
      let follow : Follow (virtual_channels t e l a.terminal lid.0) first second =
      (f.1, a.at_hop, subst (λ vs. slice_get vs (suc f.1) ≡ Some second) (same_terminal t e l b.terminal a.terminal lid.0 (b.of_source ∙ sym a.of_source) (b.at_port ∙ sym a.at_port)) b.at_hop) in
      omega (arith, f.5, f.6, f.7, good.rises first second (a.terminal, lid.0, a.path, follow))

-- with these lanes or without any
no_fault : (t : Topology) (e : Entries) (lanes : Option LaneTables) → Reaches t e → ((l : LaneTables) → lanes ≡ Some l → HasRisingNumbers t e l) →
    (place : List ℕ) (fault : Verdict) → IsFaultAt t e lanes place fault → ⊥
no_fault t e lanes reaches good place (Unreached lid s end) f = f.3 (sym f.2 ∙ reaches s.0 lid.0 f.1)
no_fault t e lanes reaches good place Routes f = f.2
no_fault t e lanes reaches good place Lanes f = f.2
no_fault t e lanes reaches good place (NoLevel lid source) f = no_lane_fault t e f.0 reaches (good f.0 f.1) place (NoLevel lid source) f.2
no_fault t e lanes reaches good place (BadLane lid source at) f = no_lane_fault t e f.0 reaches (good f.0 f.1) place (BadLane lid source at) f.2
no_fault t e lanes reaches good place (NoNumber lid source at) f = no_lane_fault t e f.0 reaches (good f.0 f.1) place (NoNumber lid source at) f.2
no_fault t e lanes reaches good place (NotRising lid source first second m n) f = no_lane_fault t e f.0 reaches (good f.0 f.1) place (NotRising lid source first second m n) f.2

verdict_of : (t : Topology) (p : Plan) → IsCertified t p → IsVerdict t p.tables p.lanes Lanes
verdict_of t p c =
    (ap is_some c.1, no_fault t p.tables p.lanes c.2 (λ l x. subst (HasRisingNumbers t p.tables) (unsome c.0 l (sym c.1 ∙ x)) c.3))

pub lanes_is_certified : LanesIsCertified
lanes_is_certified t p = (certified_of t p, verdict_of t p)

pub routes_reaches : RoutesReaches
routes_reaches t p =
    ((λ v. (v.0, reaching t p.tables p.lanes v.1)), (λ r. (r.0, no_fault t p.tables p.lanes r.1 (λ l x. absurd (none_some l (sym r.0 ∙ x))))))
