-- Where the routes to a LID are delivered, the first channels of the routes are a tree towards it.
use Rattle.std.proofs.Common.{◌≡◌, ◌≢◌, ℕ, zero, suc, ◌+◌, ◌<◌, ◌≤◌, ◌⊎◌, inl, inr, Bool, true, false, List, [], ◌∷◌, ◌&&◌, length, Option, Some, None, refl, sym, ◌∙◌, ap, subst, arith}
use Rattle.std.specs.Prelude.{IsSome, IfSome, IsTrue, ◌↔◌, option_map, slice_get, slice_set, if◌then◌else◌, ◌==◌, ◌||◌, is_some}
use Rattle.std.proofs.lemmas.Bool.{cases_lt, eqb-true, false≢true}
use Rattle.std.proofs.lemmas.Option.{none-some, same_Some}
use Rattle.std.proofs.lemmas.List.{get_or_past}
use Rattle.fab_model.specs.declared.rows.ChannelId.{ChannelId}
use Rattle.fab_model.specs.declared.rows.ChannelRow.{ChannelRow}
use Rattle.fab_model.specs.declared.rows.Place.{Place}
use Rattle.fab_model.specs.Topology.{Topology, place_of, channel_at, terminal_at}
use Rattle.fab_model.specs.Connected.{AreConnected, IsConnectedTo}
use Rattle.fab_model.specs.WellFormed.{IsWellFormed}
use Rattle.fab_tables.specs.declared.end.End.{End}
use Rattle.fab_tables.specs.declared.end.End.TheVariants.{Delivered, NoEntry, DeadPort, Astray, Loop}
use Rattle.fab_tables.specs.Entries.{Entries, entry}
use Rattle.fab_tables.specs.FixedEntries.{IsChosen}
use Rattle.fab_tables.specs.Route.{Hop, Route, hop_by, is_place, along_or_stop, tip, after_hop, route_within, route}
use Rattle.fab_tables.specs.Route.Hop.{Along, Stop}
use Rattle.fab_tables.specs.Trees.{next, LeavesSwitch}
use Rattle.fab_tables.specs.TreeWalks.{GoesAlong, IsTree, walk_of}
use Rattle.fab_tables.proofs.Paths.FallingRoutes.{channel_found, connected_below, tip_connected, place_below}
use Rattle.fab_tables.proofs.Paths.RouteTurns.{along_channel}
use Rattle.fab_tables.proofs.Paths.TreeRoutes.{channel_along}
use Rattle.fab_tables.proofs.Paths.TreeWalks.{next_below, goes_walk_of, walk_of_next}
use Rattle.fab_nue.specs.OldRoutes.{AreAllDelivered, IsRoutedAt, IsRouteTree}
use Rattle.fab_nue.specs.Laying.{IsTreeToward}
use Rattle.fab_nue.specs.NuePlan.{IsPortInTree}
use Rattle.fab_nue.proofs.Searching.Growing.{read_same, read_other, same_or_other}
use Rattle.fab_nue.proofs.Searching.SearchTrees.{is_there}

-- an entry delivers at the LID's place alone
pub delivers_at : (t : Topology) (lid s port : ℕ) (place : Place) → place_of t lid ≡ Some place → hop_by t lid s port ≡ Stop Delivered → (place.switch.0 ≡ s) × (place.port ≡ port)
delivers_at t lid s port place at e = both (place.switch.0 == s) (place.port == port) refl refl (go (port == 255) (is_place (place_of t lid) s port) (channel_at t s port) e)
  where
    stopped : (b : Bool) → (if b then Stop Astray else Stop DeadPort) ≡ Stop Delivered → ⊥
    stopped true x = cc
    stopped false x = cc

    go : (a b : Bool) (o : Option ℕ) → (if a then Stop NoEntry else if b then Stop Delivered else along_or_stop t s port o) ≡ Stop Delivered → b ≡ true
    go true b o x = cc
    go false true o x = refl
    go false false None x = absurd (stopped ((port == 0) || is_some (terminal_at t s port)) x)
    go false false (Some d) x = cc

    both : (a b : Bool) → (place.switch.0 == s) ≡ a → (place.port == port) ≡ b → is_place (place_of t lid) s port ≡ true → (place.switch.0 ≡ s) × (place.port ≡ port)
    both a b x y h = split a b x y (sym (ap (λ o. is_place o s port) at) ∙ h)
      where
        split : (a b : Bool) → (place.switch.0 == s) ≡ a → (place.port == port) ≡ b → ((place.switch.0 == s) && (place.port == port)) ≡ true → (place.switch.0 ≡ s) × (place.port ≡ port)
        split true true x y h = (eqb-true place.switch.0 s x, eqb-true place.port port y)
        split true false x y h = absurd (no (sym (ap (λ z. (place.switch.0 == s) && z) y) ∙ h))
          where
            no : ((place.switch.0 == s) && false) ≡ true → ⊥
            no w = never (place.switch.0 == s) w
              where
                never : (z : Bool) → (z && false) ≡ true → ⊥
                never true w = cc
                never false w = cc
        split false b x y h = absurd (no (sym (ap (λ z. z && (place.port == port)) x) ∙ h))
          where
            no : (false && (place.port == port)) ≡ true → ⊥
            no w = cc

loops : Loop ≡ Delivered → ⊥
loops e = cc

module _ (t : Topology) (e : Entries) (lid : ℕ) where
  hop_at : ℕ → Hop
  hop_at s = hop_by t lid s (entry e s lid)

  -- the first channel of a route is that of the entry
  first_within : (n s : ℕ) → 0 < n → slice_get (route_within t e lid n s).channels 0 ≡ channel_along (hop_by t lid s (entry e s lid))
  first_within zero s h = absurd (omega (arith, h))
  first_within (suc n) s h = go (hop_by t lid s (entry e s lid))
    where
      go : (x : Hop) → slice_get (after_hop t (λ to. route_within t e lid n to) x).channels 0 ≡ channel_along x
      go (Along c) = refl
      go (Stop end) = refl

  -- where the entry stops, so does the route
  end_within : (n s : ℕ) (end : End) → 0 < n → hop_by t lid s (entry e s lid) ≡ Stop end → (route_within t e lid n s).end ≡ end
  end_within zero s end h is = absurd (omega (arith, h))
  end_within (suc n) s end h is = ap (λ x. (after_hop t (λ to. route_within t e lid n to) x).end) is

-- what a switch gets: the first channel of its route, which is delivered, or none where it isn't connected
abbrev pub IsFirst : Topology → Entries → ℕ → ℕ → Option ℕ → Type 0
IsFirst t e lid s o =
    (IsConnectedTo t s lid × ((route t e s lid).end ≡ Delivered) × (o ≡ slice_get (route t e s lid).channels 0))
    ⊎ ((¬ IsConnectedTo t s lid) × (o ≡ None))

-- the first channel of a route leaves its switch
pub first_leaves : (t : Topology) (e : Entries) (lid s : ℕ) → IsWellFormed t → (c : ℕ) → slice_get (route t e s lid).channels 0 ≡ Some c → LeavesSwitch t c s
first_leaves t e lid s good c first = of_hop (hop_by t lid s (entry e s lid)) refl (sym (first_within t e lid (length t.switches) s good.some_switch) ∙ first)
  where
    of_hop : (x : Hop) → hop_by t lid s (entry e s lid) ≡ x → channel_along x ≡ Some c → LeavesSwitch t c s
    of_hop (Along d) at y =
        let found : (row : ChannelRow) × (d < length t.channels) × (slice_get t.channels d ≡ Some row) × (row.tail.0 ≡ s) × (row.port ≡ entry e s lid)
        = channel_found t s (entry e s lid) d (along_channel t lid s (entry e s lid) d at) in
        subst (λ k. LeavesSwitch t k s) (same_Some d c y) (found.0, found.2, found.3)
    of_hop (Stop end) at y = absurd (none-some c y)

-- the same of what the code reads
pub read_leaves : (t : Topology) (e : Entries) (lid s : ℕ) → IsWellFormed t → (o : Option ChannelId) → option_map (λ (d : ChannelId). d.0) o ≡ slice_get (route t e s lid).channels 0 → IfSome o (λ (d : ChannelId). LeavesSwitch t d.0 s)
read_leaves t e lid s good None first = record {}
read_leaves t e lid s good (Some d) first = first_leaves t e lid s good d.0 (sym first)

-- one switch more has its first channel
pub routed_more : (t : Topology) (e : Entries) (lid : ℕ) (tree : List (Option ℕ)) (n : ℕ) (o : Option ℕ) → n < length tree → IsFirst t e lid n o →
    ((s : ℕ) → s < n → IsRoutedAt t e lid tree s) → (s : ℕ) → s < n + 1 → IsRoutedAt t e lid (slice_set tree n o) s
routed_more t e lid tree n o low first before s h = elim (same_or_other s n) [
  | inl same ↦ subst (λ k. IsRoutedAt t e lid (slice_set tree n o) k) (sym same) (subst (λ x. IsFirst t e lid n x) (sym (read_same tree n o low)) first)
  | inr other ↦ subst (λ x. IsFirst t e lid s x) (sym (read_other tree n s o other)) (before s (omega (arith, h, other)))
]

-- what the code's test of the components says
module _ (t of_components : Topology) (lid s : ℕ) (place : Place) (answer : Bool) (same : of_components ≡ t) (at : place_of t lid ≡ Some place) (says : IsTrue answer ↔ AreConnected of_components s place.switch.0) where
  pub is_connected : answer ≡ true → IsConnectedTo t s lid
  is_connected so = (place, at, subst (λ (x : Topology). AreConnected x s place.switch.0) same (says.0 so))

  pub are_joined : answer ≡ false → ¬ IsConnectedTo t s lid
  are_joined apart joined = false≢true (sym apart ∙ says.1 (subst (λ (x : Topology). AreConnected x s place.switch.0) (sym same) (subst (λ (p : Place). AreConnected t s p.switch.0) (same_Some joined.0 place (sym joined.1 ∙ at)) joined.2)))

module _ (t : Topology) (e : Entries) (lid : ℕ) (tree : List (Option ℕ)) (good : IsWellFormed t) (is : IsRouteTree t e lid tree) where
  routed : (s : ℕ) → IsConnectedTo t s lid → ((route t e s lid).end ≡ Delivered) × (next tree s ≡ channel_along (hop_by t lid s (entry e s lid)))
  routed s c = elim (is.each s (connected_below t good s lid c)) [
    | inl r ↦ (r.1, r.2 ∙ first_within t e lid (length t.switches) s good.some_switch)
    | inr apart ↦ absurd (apart.0 c)
  ]

  pub all_delivered : AreAllDelivered t e lid
  all_delivered s c = (routed s c).0

  on : (s c : ℕ) → IsConnectedTo t s lid → hop_by t lid s (entry e s lid) ≡ Along c → IsConnectedTo t (tip t c) lid
  on s c connected along = (connected.0, connected.1, tip_connected t good s (entry e s lid) c connected.0.switch.0 (along_channel t lid s (entry e s lid) c along) connected.2)

  goes_within : (n s : ℕ) → IsConnectedTo t s lid → (route_within t e lid n s).end ≡ Delivered → GoesAlong t tree s (route_within t e lid n s).channels
  goes_within zero s connected delivered = absurd (loops delivered)
  goes_within (suc n) s connected delivered = go (λ next c x. goes_within n next c x) (hop_by t lid s (entry e s lid)) refl delivered
    where
      go : ((next : ℕ) → IsConnectedTo t next lid → (route_within t e lid n next).end ≡ Delivered → GoesAlong t tree next (route_within t e lid n next).channels) → (x : Hop) → hop_by t lid s (entry e s lid) ≡ x → (after_hop t (λ to. route_within t e lid n to) x).end ≡ Delivered → GoesAlong t tree s (after_hop t (λ to. route_within t e lid n to) x).channels
      go more (Stop end) at x = (routed s connected).1 ∙ ap channel_along at
      go more (Along c) at x = ((routed s connected).1 ∙ ap channel_along at, more (tip t c) (on s c connected at) x)

  pub route_goes : (s : ℕ) → IsConnectedTo t s lid → GoesAlong t tree s (route t e s lid).channels
  route_goes s connected = goes_within (length t.switches) s connected (routed s connected).0

  -- a switch's channel is that of its entry
  along_hop : (s c : ℕ) → next tree s ≡ Some c → IsConnectedTo t s lid × (hop_by t lid s (entry e s lid) ≡ Along c)
  along_hop s c own = elim (is.each s (omega (arith, next_below tree s c own, is.each_switch))) [
    | inl r ↦ (r.0, of_hop (hop_by t lid s (entry e s lid)) (sym (routed s r.0).1 ∙ own))
    | inr apart ↦ absurd (none-some c (sym apart.1 ∙ own))
  ]
    where
      of_hop : (x : Hop) → channel_along x ≡ Some c → x ≡ Along c
      of_hop (Along d) y = ap Along (same_Some d c y)
      of_hop (Stop end) y = absurd (none-some c y)

  leaves : (s c : ℕ) → next tree s ≡ Some c → LeavesSwitch t c s
  leaves s c own =
      let found : (row : ChannelRow) × (c < length t.channels) × (slice_get t.channels c ≡ Some row) × (row.tail.0 ≡ s) × (row.port ≡ entry e s lid)
      = channel_found t s (entry e s lid) c (along_channel t lid s (entry e s lid) c (along_hop s c own).1) in
      (found.0, found.2, found.3)

  ends : (s : ℕ) → (cs : List ℕ) × GoesAlong t tree s cs
  ends s = elim (cases_lt s (length t.switches)) [
    | inl low ↦ (elim (is.each s low) [ inl r ↦ ((route t e s lid).channels, route_goes s r.0) | inr apart ↦ ([], apart.1) ])
    | inr past ↦ ([], get_or_past tree s None (omega (arith, past, is.each_switch)))
  ]

  pub route_tree : IsTree t tree
  route_tree = record { each_switch = is.each_switch; leaves = leaves; ends = ends }

  -- the walks are the routes
  pub route_walk : (s : ℕ) → IsConnectedTo t s lid → walk_of t tree s ≡ (route t e s lid).channels
  route_walk s connected = goes_walk_of t tree s (route t e s lid).channels is.each_switch (route_goes s connected)

  module _ (place : Place) (at : place_of t lid ≡ Some place) where
    abbrev to : ℕ
    to = place.switch.0

    there : IsConnectedTo t to lid
    there = (place, at, (0, refl))

    -- the walk from any switch comes by the place, so it isn't shorter than that from there
    no_shorter : (n s : ℕ) → IsConnectedTo t s lid → (route_within t e lid n s).end ≡ Delivered → length (walk_of t tree to) ≤ length (walk_of t tree s)
    no_shorter zero s connected delivered = absurd (loops delivered)
    no_shorter (suc n) s connected delivered = go (λ next c x. no_shorter n next c x) (hop_by t lid s (entry e s lid)) refl delivered
      where
        go : ((next : ℕ) → IsConnectedTo t next lid → (route_within t e lid n next).end ≡ Delivered → length (walk_of t tree to) ≤ length (walk_of t tree next)) → (x : Hop) → hop_by t lid s (entry e s lid) ≡ x → (after_hop t (λ z. route_within t e lid n z) x).end ≡ Delivered → length (walk_of t tree to) ≤ length (walk_of t tree s)
        go more (Stop end) is' x =
            let here : to ≡ s = (delivers_at t lid s (entry e s lid) place at (is' ∙ ap Stop x)).0 in
            omega (arith, ap (λ k. length (walk_of t tree k)) here)
        go more (Along c) is' x =
            let rest : length (walk_of t tree to) ≤ length (walk_of t tree (tip t c)) = more (tip t c) (on s c connected is') x in
            omega (arith, rest, ap length (walk_of_next t tree s c route_tree ((routed s connected).1 ∙ ap channel_along is')))

    pub none_at_place : next tree to ≡ None
    none_at_place = go (next tree to) refl
      where
        go : (o : Option ℕ) → next tree to ≡ o → o ≡ None
        go None own = refl
        go (Some c) own =
            let hop : IsConnectedTo t to lid × (hop_by t lid to (entry e to lid) ≡ Along c) = along_hop to c own in
            let behind : IsConnectedTo t (tip t c) lid = on to c there hop.1 in
            absurd (omega (
              arith,
              no_shorter (length t.switches) (tip t c) behind (routed (tip t c) behind).0,
              ap length (walk_of_next t tree to c route_tree own),
            ))

    -- another connected switch has a channel
    some_elsewhere : (s : ℕ) → IsConnectedTo t s lid → s ≢ to → IsSome (next tree s)
    some_elsewhere s connected other = go (hop_by t lid s (entry e s lid)) refl
      where
        go : (x : Hop) → hop_by t lid s (entry e s lid) ≡ x → IsSome (next tree s)
        go (Along c) is' = is_there (next tree s) c ((routed s connected).1 ∙ ap channel_along is')
        go (Stop end) is' =
            let delivered : end ≡ Delivered = sym (end_within t e lid (length t.switches) s end good.some_switch is') ∙ (routed s connected).0 in
            absurd (other (sym (delivers_at t lid s (entry e s lid) place at (is' ∙ ap Stop delivered)).0))

    pub route_toward : IsTreeToward t lid tree
    route_toward = record {
      is_tree = route_tree;
      place = place;
      in_use = at;
      chosen = λ s c own. record {
        place = place;
        in_use = at;
        at_switch = refl;
        connected =
            let joined : IsConnectedTo t s lid = (along_hop s c own).0 in
            let same : joined.0 ≡ place = same_Some joined.0 place (sym joined.1 ∙ at) in
            subst (λ (p : Place). AreConnected t s p.switch.0) same joined.2;
        other = λ same. none-some c (sym none_at_place ∙ ap (λ k. next tree k) (sym same) ∙ own);
      };
      every = λ s chosen. some_elsewhere s (place, at, chosen.connected) chosen.other;
    }

    -- entries that are the ports of the tree are the old ones
    pub same_entry : (new : Entries) (s : ℕ) → entry new to lid ≡ place.port → (s ≢ to → IsPortInTree t tree s (entry new s lid)) → IsConnectedTo t s lid → (s ≡ to) ⊎ (s ≢ to) → entry new s lid ≡ entry e s lid
    same_entry new s own port connected (inl same) = ap (λ k. entry new k lid) same ∙ own ∙ old_own ∙ ap (λ k. entry e k lid) (sym same)
      where
        old_own : place.port ≡ entry e to lid
        old_own = go (hop_by t lid to (entry e to lid)) refl
          where
            go : (x : Hop) → hop_by t lid to (entry e to lid) ≡ x → place.port ≡ entry e to lid
            go (Along c) is' = absurd (none-some c (sym none_at_place ∙ (routed to there).1 ∙ ap channel_along is'))
            go (Stop end) is' =
                let delivered : end ≡ Delivered = sym (end_within t e lid (length t.switches) to end good.some_switch is') ∙ (routed to there).0 in
                (delivers_at t lid to (entry e to lid) place at (is' ∙ ap Stop delivered)).1
    same_entry new s own port connected (inr other) =
        let q : IsPortInTree t tree s (entry new s lid) = port other in
        let found : (row : ChannelRow) × (q.0 < length t.channels) × (slice_get t.channels q.0 ≡ Some row) × (row.tail.0 ≡ s) × (row.port ≡ entry e s lid)
        = channel_found t s (entry e s lid) q.0 (along_channel t lid s (entry e s lid) q.0 (along_hop s q.0 q.2).1) in
        q.4 ∙ ap (λ (r : ChannelRow). r.port) (same_Some q.1 found.0 (sym q.3 ∙ found.2)) ∙ found.4
