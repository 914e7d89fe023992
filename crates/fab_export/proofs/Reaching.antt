-- Of tables whose routes all reach, a switch reaches just the LIDs connected to it.
use Rattle.std.proofs.Common.{◌≡◌, ℕ, zero, suc, ◌<◌, length, Bool, true, false, refl, sym, ◌∙◌, ap, Some, None, Option, slice_get}
use Rattle.std.specs.Prelude.{◌==◌, ◌||◌, if◌then◌else◌, is_some}
use Rattle.std.proofs.lemmas.Bool.{eqb-true}
use Rattle.std.proofs.lemmas.Option.{get_or_from_slice_get}
use Rattle.fab_model.specs.declared.rows.Place.{Place}
use Rattle.fab_model.specs.declared.rows.ChannelRow.{ChannelRow}
use Rattle.fab_model.specs.Topology.{Topology, place_of, channel_at, terminal_at}
use Rattle.fab_model.specs.Connected.{LeadsTo, IsConnectedTo}
use Rattle.fab_tables.specs.declared.end.End.{End}
use Rattle.fab_tables.specs.declared.end.End.TheVariants.{Delivered, NoEntry, DeadPort, Astray, Loop}
use Rattle.fab_tables.specs.Entries.{Entries, entry}
use Rattle.fab_tables.specs.Route.{Hop, hop_by, is_place, along_or_stop, tip, tip_of_row, after_hop, route_within}
use Rattle.fab_tables.specs.Route.Hop.{Along, Stop}
use Rattle.fab_tables.proofs.Paths.FallingRoutes.{channel_found}
use Rattle.fab_tables.proofs.Paths.RouteTurns.{along_channel}
use Rattle.fab_export.specs.Reached.{is_delivered}
use Rattle.fab_export.specs.Laws.{ReachedIsConnected}
use Rattle.fab_export.proofs.ListTests.{both_true}

pub delivered_is : (end : End) → is_delivered end ≡ true → end ≡ Delivered
delivered_is Delivered is = refl
delivered_is NoEntry is = cc
delivered_is DeadPort is = cc
delivered_is Astray is = cc
delivered_is Loop is = cc

-- where a hop stops delivered, the switch has the LID's place
at_place : (o : Option Place) (s port : ℕ) → is_place o s port ≡ true → (place : Place) × (o ≡ Some place) × (s ≡ place.switch.0) × (port ≡ place.port)
at_place None s port is = absurd (cc)
at_place (Some place) s port is =
    let both : ((place.switch.0 == s) ≡ true) × ((place.port == port) ≡ true) = both_true (place.switch.0 == s) (place.port == port) is in
    (place, refl, sym (eqb-true place.switch.0 s both.0), sym (eqb-true place.port port both.1))

pub stops_at_place : (t : Topology) (lid s port : ℕ) → hop_by t lid s port ≡ Stop Delivered → (place : Place) × (place_of t lid ≡ Some place) × (s ≡ place.switch.0) × (port ≡ place.port)
stops_at_place t lid s port is = go (port == 255) (is_place (place_of t lid) s port) refl (channel_at t s port) is
  where
    no_more : (b : Bool) → (if b then Stop Astray else Stop DeadPort) ≡ Stop Delivered → ⊥
    no_more true x = cc
    no_more false x = cc

    go : (none here : Bool) → is_place (place_of t lid) s port ≡ here → (c : Option ℕ) →
        (if none then Stop NoEntry else if here then Stop Delivered else along_or_stop t s port c) ≡ Stop Delivered → (place : Place) × (place_of t lid ≡ Some place) × (s ≡ place.switch.0) × (port ≡ place.port)
    go true here e c x = absurd (cc)
    go false true e c x = at_place (place_of t lid) s port e
    go false false e None x = absurd (no_more ((port == 0) || is_some (terminal_at t s port)) x)
    go false false e (Some c) x = absurd (along_not x)
      where
        along_not : Along c ≡ Stop Delivered → ⊥
        along_not y = cc

-- a channel that an entry goes along leads to its tip
pub along_leads : (t : Topology) (lid s port c : ℕ) → hop_by t lid s port ≡ Along c → LeadsTo t s (tip t c)
along_leads t lid s port c is =
    let found : (row : ChannelRow) × (c < length t.channels) × (slice_get t.channels c ≡ Some row) × (row.tail.0 ≡ s) × (row.port ≡ port) = channel_found t s port c (along_channel t lid s port c is) in
    (found.0, (c, found.1, get_or_from_slice_get t.channels c found.0 found.0 found.2), found.3, sym (ap tip_of_row found.2))

-- a switch whose route is delivered is connected to the LID
pub delivered_connected : (t : Topology) (e : Entries) (lid n s : ℕ) → (route_within t e lid n s).end ≡ Delivered → IsConnectedTo t s lid
delivered_connected t e lid zero s is = absurd (cc)
delivered_connected t e lid (suc n) s is = go (hop_by t lid s (entry e s lid)) refl (λ next x. delivered_connected t e lid n next x) is
  where
    go : (hop : Hop) → hop_by t lid s (entry e s lid) ≡ hop → ((next : ℕ) → (route_within t e lid n next).end ≡ Delivered → IsConnectedTo t next lid) →
        (after_hop t (λ next. route_within t e lid n next) hop).end ≡ Delivered → IsConnectedTo t s lid
    go (Stop end) same rest x =
        let there : (place : Place) × (place_of t lid ≡ Some place) × (s ≡ place.switch.0) × (entry e s lid ≡ place.port) = stops_at_place t lid s (entry e s lid) (same ∙ ap Stop x) in
        (there.0, there.1, (0, there.2))
    go (Along c) same rest x =
        let behind : IsConnectedTo t (tip t c) lid = rest (tip t c) x in
        (behind.0, behind.1, (suc behind.2.0, (tip t c, along_leads t lid s (entry e s lid) c same, behind.2.1)))

pub reached_is_connected : ReachedIsConnected
reached_is_connected t e s lid reaches = (
  λ is. delivered_connected t e lid _ s (delivered_is _ is),
  λ connected. ap is_delivered (reaches s lid connected),
)
