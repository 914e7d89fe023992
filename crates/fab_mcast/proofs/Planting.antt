-- Planted groups: a member reaches all others that are connected to it, each once.
use Rattle.std.proofs.Common.{◌≡◌, ◌≢◌, ℕ, suc, ◌+◌, ◌<◌, ◌≤◌, ◌⊎◌, inl, inr, true, false, List, [], ◌∷◌, length, map, refl, sym, ◌∙◌, ap, subst, arith, Option, Some, None, Contains, All}
use Rattle.std.specs.Prelude.{◌==◌, ◌||◌, slice_get, slice_index_or}
use Rattle.std.specs.List.{list_any, range_with_len}
use Rattle.std.proofs.lemmas.Bool.{cases_eq, cases_order, eqb-true, eq-eqb, and_parts, and_from, or_cases, or_left, or_right}
use Rattle.std.proofs.lemmas.List.FromFn.{get_or-map-range_with_len}
use Rattle.std.proofs.lemmas.List.Quantifiers.{position-Some}
use Rattle.std.proofs.lemmas.Option.{same_Some, none-some, get_or_from_slice_get, slice_get-get_or, slice_get_within}
use Rattle.fab_model.specs.declared.rows.ChannelRow.{ChannelRow}
use Rattle.fab_model.specs.declared.rows.TerminalRow.{TerminalRow}
use Rattle.fab_model.specs.Topology.{Topology, leaves_by, channel_at, terminal_at, is_cabled_at, reversed}
use Rattle.fab_model.specs.Connected.{LeadsTo, AreConnected}
use Rattle.fab_model.specs.WellFormed.{IsFabric, IsWellFormed, UseOtherPorts}
use Rattle.fab_model.proofs.Lists.Members.{In, Pairs, in_from_Contains, Contains_from_in, in_all, from_filter, in_filter, from_filter_map, list_any_from_in, from_list_any, pairs_filter, pairs_weaker, from_map}
use Rattle.fab_model.proofs.Faultless.Facts.{slice_get_in}
use Rattle.fab_model.proofs.Lists.Found.{in_filter_map, slice_get_some, place_of_in, in_range, range_rises}
use Rattle.fab_model.proofs.Finds.{channels_are_found}
use Rattle.fab_tables.specs.Route.{tip_of_row, tip}
use Rattle.fab_tables.specs.Trees.{next, LeavesSwitch}
use Rattle.fab_tables.specs.TreeWalks.{GoesAlong, IsTree, walk_of}
use Rattle.fab_tables.proofs.Paths.FallingRoutes.{channel_found}
use Rattle.fab_tables.proofs.Joined.Walks.{connected_on, connected_back}
use Rattle.fab_escape.specs.Forest.{Forest, root_of, escape_next, escape_tree}
use Rattle.fab_escape.specs.Trees.{IsEscapeForest}
use Rattle.fab_escape.proofs.EndsOfRoutes.{no_next_channel}
use Rattle.fab_escape.proofs.EscapeTrees.{escape_tree_is_tree}
use Rattle.fab_escape.proofs.OneRoot.{roots_tell_components}
use Rattle.fab_tables.proofs.Paths.TreeWalks.{goes_walk_of}
use Rattle.fab_escape.proofs.WholeTree.{next_in_tree, of_tree}
use Rattle.fab_mcast.specs.GroupTrees.{escape_route, has_end_at, is_on_route, member_rows, is_member_port, is_tree_port, group_ports, Planted, planted, ArePlanted}
use Rattle.fab_mcast.specs.Spreads.{first_copy, ReachesMembers}
use Rattle.fab_mcast.specs.Copies.{copies_within}
use Rattle.fab_mcast.specs.Laws.{PlantedReaches}
use Rattle.fab_mcast.proofs.CopyTrees.{IsFound, IsGroupTree, ends, tree_reaches_members}
use Rattle.fab_mcast.proofs.PlantedTrees.{one_row, back_in, channel_range, terminal_range, terminal_low, not_both, of_switch, goes_behind, short, OnWay, member_in, Walks, walks, on_way}

-- the terminal that is found at a port is the one there
pub found_at : (t : Topology) (some : TerminalRow) (s port m : ℕ) → terminal_at t s port ≡ Some m → IsFound t s port m
found_at t some s port m e =
    let found : (m < length t.terminals) × (is_cabled_at s port (slice_index_or t.terminals m some) ≡ true) × ((k : ℕ) → k < m → is_cabled_at s port (slice_index_or t.terminals k some) ≡ false) =
    position-Some (is_cabled_at s port) t.terminals m some e in
    let r : TerminalRow = slice_index_or t.terminals m some in
    let parts : ((r.switch.0 == s) ≡ true) × ((r.port == port) ≡ true) = and_parts (r.switch.0 == s) (r.port == port) found.1 in
    record { row = r; is_row = slice_get-get_or t.terminals m some found.0; switch = eqb-true r.switch.0 s parts.0; at_port = eqb-true r.port port parts.1 }

pub one_terminal : (t : Topology) → IsWellFormed t → (i j : ℕ) (a b : TerminalRow) → slice_get t.terminals i ≡ Some a → slice_get t.terminals j ≡ Some b → a.switch.0 ≡ b.switch.0 → a.port ≡ b.port → i ≡ j
one_terminal t good i j a b x y switches ports = elim (cases_order i j) [
  | inl e ↦ e
  | inr (inl less) ↦ absurd (apart i j a b x y less switches ports)
  | inr (inr more) ↦ absurd (apart j i b a y x more (sym switches) (sym ports))
]
  where
    apart : (i j : ℕ) (a b : TerminalRow) → slice_get t.terminals i ≡ Some a → slice_get t.terminals j ≡ Some b → i < j → a.switch.0 ≡ b.switch.0 → a.port ≡ b.port → ⊥
    apart i j a b x y less switches ports =
        let differ : UseOtherPorts (slice_index_or t.terminals i a) (slice_index_or t.terminals j a) = good.switch_ports_differ i j a less (slice_get_within t.terminals j b y) in
        let others : UseOtherPorts a b =
        subst (λ r. UseOtherPorts a r) (get_or_from_slice_get t.terminals j b a y) (subst (λ r. UseOtherPorts r (slice_index_or t.terminals j a)) (get_or_from_slice_get t.terminals i a a x) differ) in
        others switches ports

-- the switch that a channel leaves
tail_is : (t : Topology) (d v : ℕ) (r : ChannelRow) → slice_get t.channels d ≡ Some r → LeavesSwitch t d v → v ≡ r.tail.0
tail_is t d v r at by = sym by.2 ∙ ap (λ (x : ChannelRow). x.tail.0) (same_Some by.0 r (sym by.1 ∙ at))

port_of_row : Option ChannelRow → ℕ
port_of_row None = 0
port_of_row (Some r) = r.port

module _ (t : Topology) (good : IsWellFormed t) (lane : ℕ) (f : Forest) (forest : IsEscapeForest t lane f) (members : List ℕ) (from : ℕ) (has : Contains members from)
    (row : TerminalRow) (is_row : slice_get t.terminals from ≡ Some row) where
  abbrev source : ℕ
  source = row.switch.0

  source_low : source < length t.switches
  source_low = terminal_low t good row (slice_get_in t.terminals from row is_row)

  row_member : In row (member_rows t members)
  row_member = in_filter_map (λ n. slice_get t.terminals n) members from row (in_from_Contains members from has) is_row

  abbrev tree : List (Option ℕ)
  tree = escape_tree f source

  is_tree : IsTree t tree
  is_tree = escape_tree_is_tree t lane f source good forest source_low

  -- the channel towards the source
  abbrev step : ℕ → Option ℕ
  step x = escape_next f x source

  abbrev parent_by : ℕ → Option ℕ → ℕ
  parent_by x None = x
  parent_by x (Some c) = tip t c

  abbrev arrival_by : Option ℕ → ℕ
  arrival_by None = row.port
  arrival_by (Some c) = port_of_row (slice_get t.channels c)

  abbrev parent : ℕ → ℕ
  parent x = parent_by x (step x)

  abbrev arrival : ℕ → ℕ
  arrival x = arrival_by (step x)

  abbrev depth : ℕ → ℕ
  depth x = length (walk_of t tree x)

  no_step : step source ≡ None
  no_step = (no_next_channel t lane f good forest source source source_low source_low).1 (inl refl)

  some_step : (x : ℕ) → x < length t.switches → AreConnected t source x → x ≢ source → (c : ℕ) × (step x ≡ Some c)
  some_step x low joined other = go (step x) refl
    where
      go : (o : Option ℕ) → step x ≡ o → (c : ℕ) × (step x ≡ Some c)
      go (Some c) e = (c, e)
      go None e = elim ((no_next_channel t lane f good forest x source low source_low).0 e) [
        | inl same ↦ absurd (other same)
        | inr apart ↦ absurd (apart (connected_back t good source x joined))
      ]

  next_of : (x c : ℕ) → x < length t.switches → step x ≡ Some c → next tree x ≡ Some c
  next_of x c low e = next_in_tree f x source (omega (arith, low, forest.each_link)) ∙ e

  tip_low : (r : ChannelRow) → In r t.channels → r.tip.0 < length t.switches
  tip_low r at = in_all (λ (x : ChannelRow). x.tail.0 < length t.switches) t.channels good.channel_tails (reversed r) (back_in t good r at)

  leads : (r : ChannelRow) → In r t.channels → LeadsTo t r.tail.0 r.tip.0
  leads r at = (r, Contains_from_in t.channels r at, refl, refl)

  record OutBy (x c : ℕ) : Type 0 where
    r : ChannelRow
    at : slice_get t.channels c ≡ Some r
    inside : In r t.channels
    tail : r.tail.0 ≡ x
    parent_is : parent x ≡ r.tip.0
    arrival_is : arrival x ≡ r.port
    low : r.tip.0 < length t.switches
    further : depth x ≡ suc (depth r.tip.0)

  out : (x c : ℕ) → x < length t.switches → step x ≡ Some c → OutBy x c
  unfolding port_of_row
  out x c low e =
      let by : LeavesSwitch t c x = is_tree.leaves x c (next_of x c low e) in
      let inside : In by.0 t.channels = slice_get_in t.channels c by.0 by.1 in
      let there : by.0.tip.0 < length t.switches = tip_low by.0 inside in
      let w : Walks t good lane f forest members source by.0.tip.0 = walks t good lane f forest members source by.0.tip.0 source_low there in
      let goes : GoesAlong t tree x (c ∷ w.cs) = (next_of x c low e, subst (λ y. GoesAlong t tree y w.cs) (sym (ap tip_of_row by.1)) w.goes) in
      record {
        r = by.0;
        at = by.1;
        inside = inside;
        tail = by.2;
        parent_is = ap (λ o. parent_by x o) e ∙ ap tip_of_row by.1;
        arrival_is = ap arrival_by e ∙ ap port_of_row by.1;
        low = there;
        further = ap (λ (cs : List ℕ). length cs) (goes_walk_of t tree x (c ∷ w.cs) is_tree.each_switch goes) ∙ ap (λ (cs : List ℕ). suc (length cs)) (sym w.whole);
      }

  -- ---- the switches of the tree

  abbrev IsPassed : ℕ → Type 0
  IsPassed x = (m : TerminalRow) × (c : ℕ) × In m (member_rows t members) × AreConnected t m.switch.0 source × (step x ≡ Some c) × In c (walk_of t tree m.switch.0)

  abbrev Has : ℕ → Type 0
  Has x = (x < length t.switches) × AreConnected t source x × ((x ≡ source) ⊎ IsPassed x)

  member_low : (m : TerminalRow) → In m (member_rows t members) → m.switch.0 < length t.switches
  member_low m at = terminal_low t good m (member_in t good lane f forest members m at)

  -- a walk to the source passes the tip of each of its channels
  passes_tip : (m : TerminalRow) (c : ℕ) (r : ChannelRow) → In m (member_rows t members) → AreConnected t m.switch.0 source → In c (walk_of t tree m.switch.0) → slice_get t.channels c ≡ Some r → AreConnected t source r.tail.0 → Has r.tip.0
  passes_tip m c r in_m joined there at tail_joined = (
    low,
    over,
    elim (cases_eq r.tip.0 source) [
      | inl same ↦ inl same
      | inr other ↦
          (let more : (d : ℕ) × (step r.tip.0 ≡ Some d) = some_step r.tip.0 low over other in
          let w : Walks t good lane f forest members source m.switch.0 = walks t good lane f forest members source m.switch.0 source_low (member_low m in_m) in
          let next_is : next tree (tip t c) ≡ Some more.0 = ap (λ x. next tree x) (ap tip_of_row at) ∙ next_of r.tip.0 more.0 low more.1 in
          inr (m, more.0, in_m, joined, more.1, subst (λ cs. In more.0 cs) (sym w.whole) (goes_behind t tree w.cs m.switch.0 w.goes c more.0 (subst (λ cs. In c cs) w.whole there) next_is)))
    ],
  )
    where
      inside : In r t.channels
      inside = slice_get_in t.channels c r at

      low : r.tip.0 < length t.switches
      low = tip_low r inside

      over : AreConnected t source r.tip.0
      over = connected_on t source r.tail.0 r.tip.0 tail_joined (leads r inside)

  passed : (y : ℕ) → Has y → y ≢ source → IsPassed y
  passed y h other = elim h.2 [ inl same ↦ absurd (other same) | inr p ↦ p ]

  parent_has : (y : ℕ) → Has y → y ≢ source → Has (parent y) × (depth y ≡ suc (depth (parent y)))
  parent_has y h other =
      let p : IsPassed y = passed y h other in
      let o : OutBy y p.1 = out y p.1 h.0 p.4 in
      (subst Has (sym o.parent_is) (passes_tip p.0 p.1 o.r p.2 p.3 p.5 o.at (subst (λ x. AreConnected t source x) (sym o.tail) h.1)), o.further ∙ ap (λ x. suc (depth x)) (sym o.parent_is))

  -- ---- the ports

  abbrev ports : List (List ℕ)
  ports = map (group_ports t f members) (range_with_len 0 (length t.switches))

  ports_at : (x : ℕ) → x < length t.switches → slice_index_or ports x [] ≡ group_ports t f members x
  ports_at x low = get_or-map-range_with_len (group_ports t f members) 0 (length t.switches) x x [] low (omega arith)

  from_port : (x port : ℕ) → x < length t.switches → In port (slice_index_or ports x []) → (is_member_port t members x port ≡ true) ⊎ (is_tree_port t f members x port ≡ true)
  from_port x port low at =
      or_cases (is_member_port t members x port) (is_tree_port t f members x port)
      (from_filter (λ p. is_member_port t members x p || is_tree_port t f members x p) (range_with_len 1 254) port (subst (λ ps. In port ps) (ports_at x low) at)).1

  to_port : (x port : ℕ) → x < length t.switches → (1 ≤ port) × (port < 1 + 254) → (is_member_port t members x port ≡ true) ⊎ (is_tree_port t f members x port ≡ true) → In port (slice_index_or ports x [])
  to_port x port low range either =
      subst (λ ps. In port ps) (sym (ports_at x low))
      (in_filter (λ p. is_member_port t members x p || is_tree_port t f members x p) (range_with_len 1 254) port (in_range 1 254 port range.0 range.1) (elim either [
        | inl a ↦ or_left (is_member_port t members x port) (is_tree_port t f members x port) a
        | inr b ↦ or_right (is_member_port t members x port) (is_tree_port t f members x port) b
      ]))

  -- a member's terminal
  record MemberAt (x port : ℕ) : Type 0 where
    n : ℕ
    r : TerminalRow
    is_member : In n members
    at : slice_get t.terminals n ≡ Some r
    switch : r.switch.0 ≡ x
    at_port : r.port ≡ port

  member_at : (x port : ℕ) → is_member_port t members x port ≡ true → MemberAt x port
  member_at x port e =
      let some : (r : TerminalRow) × In r (member_rows t members) × (is_cabled_at x port r ≡ true) = from_list_any (is_cabled_at x port) (member_rows t members) e in
      let n : (n : ℕ) × In n members × (slice_get t.terminals n ≡ Some some.0) = from_filter_map (λ n. slice_get t.terminals n) members some.0 some.1 in
      let both : ((some.0.switch.0 == x) ≡ true) × ((some.0.port == port) ≡ true) = and_parts (some.0.switch.0 == x) (some.0.port == port) some.2 in
      record { n = n.0; r = some.0; is_member = n.1; at = n.2; switch = eqb-true some.0.switch.0 x both.0; at_port = eqb-true some.0.port port both.1 }

  -- a cable on the way from a member
  pub record CableAt (x port : ℕ) : Type 0 where
    pub q : ChannelRow
    pub inside : In q t.channels
    pub tail : q.tail.0 ≡ x
    pub at_port : q.port ≡ port
    pub on : OnWay t f members source q

  root_joined : (x : ℕ) → x < length t.switches → AreConnected t source x → root_of f x ≡ root_of f source
  root_joined x low joined = (roots_tell_components t lane f x source good forest low source_low).1 (connected_back t good source x joined)

  turn : (r : ChannelRow) → OnWay t f members source r → OnWay t f members source (reversed r)
  turn r w = record { m = w.m; is_member = w.is_member; joined = w.joined; d = w.d; there = w.there; row = w.row; at = w.at; same = elim w.same [ inl e ↦ inr e | inr e ↦ inl e ] }

  pub cable_at : (x port : ℕ) → x < length t.switches → AreConnected t source x → is_tree_port t f members x port ≡ true → CableAt x port
  cable_at x port low joined e = end (slice_get t.channels c.0) refl c.2
    where
      a : (a : TerminalRow) × In a (member_rows t members) × (list_any (λ (b : TerminalRow). is_on_route t (escape_route t f a.switch.0 b.switch.0) x port) (member_rows t members) ≡ true)
      a = from_list_any (λ (a : TerminalRow). list_any (λ (b : TerminalRow). is_on_route t (escape_route t f a.switch.0 b.switch.0) x port) (member_rows t members)) (member_rows t members) e

      b : (b : TerminalRow) × In b (member_rows t members) × (is_on_route t (escape_route t f a.0.switch.0 b.switch.0) x port ≡ true)
      b = from_list_any (λ (b : TerminalRow). is_on_route t (escape_route t f a.0.switch.0 b.switch.0) x port) (member_rows t members) a.2

      c : (c : ℕ) × In c (escape_route t f a.0.switch.0 b.0.switch.0) × (has_end_at x port (slice_get t.channels c) ≡ true)
      c = from_list_any (λ c. has_end_at x port (slice_get t.channels c)) (escape_route t f a.0.switch.0 b.0.switch.0) b.2

      at_end : (r : ChannelRow) → leaves_by x port r ≡ true → (r.tail.0 ≡ x) × (r.port ≡ port)
      at_end r h = let both = and_parts (r.tail.0 == x) (r.port == port) h in (eqb-true r.tail.0 x both.0, eqb-true r.port port both.1)

      by_tail : (r : ChannelRow) → slice_get t.channels c.0 ≡ Some r → (r.tail.0 ≡ x) × (r.port ≡ port) → CableAt x port
      by_tail r at h = record {
        q = r;
        inside = slice_get_in t.channels c.0 r at;
        tail = h.0;
        at_port = h.1;
        on = on_way t good lane f forest members source a.0 b.0 c.0 r source_low a.1 b.1 c.1 at (ap (λ y. root_of f y) h.0 ∙ root_joined x low joined);
      }

      by_tip : (r : ChannelRow) → slice_get t.channels c.0 ≡ Some r → (r.tip.0 ≡ x) × (r.tip_port ≡ port) → CableAt x port
      by_tip r at h =
          let inside : In r t.channels = slice_get_in t.channels c.0 r at in
          let back : In (reversed r) t.channels = back_in t good r inside in
          let tail_low : r.tail.0 < length t.switches = tip_low (reversed r) back in
          let tail_joined : AreConnected t source r.tail.0 = connected_on t source r.tip.0 r.tail.0 (subst (λ y. AreConnected t source y) (sym h.0) joined) (leads (reversed r) back) in
          record {
            q = reversed r;
            inside = back;
            tail = h.0;
            at_port = h.1;
            on = turn r (on_way t good lane f forest members source a.0 b.0 c.0 r source_low a.1 b.1 c.1 at (root_joined r.tail.0 tail_low tail_joined));
          }

      end : (o : Option ChannelRow) → slice_get t.channels c.0 ≡ o → has_end_at x port o ≡ true → CableAt x port
      end None at h = absurd (cc)
      end (Some r) at h = elim (or_cases (leaves_by x port r) (leaves_by x port (reversed r)) h) [
        | inl y ↦ by_tail r at (at_end r y)
        | inr y ↦ by_tip r at (at_end (reversed r) y)
      ]

  -- ---- from a switch on

  -- a channel on the way to the source is that of its switch
  on_walk : (m : TerminalRow) (d : ℕ) (r : ChannelRow) → In m (member_rows t members) → In d (walk_of t tree m.switch.0) → slice_get t.channels d ≡ Some r → step r.tail.0 ≡ Some d
  on_walk m d r in_m there at =
      let w : Walks t good lane f forest members source m.switch.0 = walks t good lane f forest members source m.switch.0 source_low (member_low m in_m) in
      let v : (v : ℕ) × (next tree v ≡ Some d) = of_switch t tree w.cs m.switch.0 w.goes d (subst (λ cs. In d cs) w.whole there) in
      let tail : v.0 ≡ r.tail.0 = tail_is t d v.0 r at (is_tree.leaves v.0 d v.1) in
      subst (λ x. step x ≡ Some d) tail (of_tree f v.0 source d v.1)

  child : (x port c : ℕ) (r : ChannelRow) → Has x → In port (slice_index_or ports x []) → port ≢ arrival x → channel_at t x port ≡ Some c → slice_get t.channels c ≡ Some r →
      Has r.tip.0 × (r.tip.0 ≢ source) × (parent r.tip.0 ≡ x) × (arrival r.tip.0 ≡ r.tip_port) × (depth r.tip.0 ≡ suc (depth x))
  child x port c r h at apart found is = elim (from_port x port h.0 at) [
    | inl member ↦
        (let m : MemberAt x port = member_at x port member in
        absurd (not_both t good m.r r (slice_get_in t.terminals m.n m.r m.at) inside (tail ∙ sym m.switch) (at_port ∙ sym m.at_port)))
    | inr cable ↦ by_cable (cable_at x port h.0 h.1 cable)
  ]
    where
      here : (row : ChannelRow) × (c < length t.channels) × (slice_get t.channels c ≡ Some row) × (row.tail.0 ≡ x) × (row.port ≡ port)
      here = channel_found t x port c found

      inside : In r t.channels
      inside = slice_get_in t.channels c r is

      tail : r.tail.0 ≡ x
      tail = ap (λ (y : ChannelRow). y.tail.0) (same_Some r here.0 (sym is ∙ here.2)) ∙ here.3

      at_port : r.port ≡ port
      at_port = ap (λ (y : ChannelRow). y.port) (same_Some r here.0 (sym is ∙ here.2)) ∙ here.4

      -- towards the source only the port of arrival leads
      towards : (d : ℕ) → step x ≡ Some d → (w : ChannelRow) → slice_get t.channels d ≡ Some w → w ≡ r → ⊥
      towards d e w row_at same =
          let o : OutBy x d = out x d h.0 e in
          apart (sym at_port ∙ ap (λ (y : ChannelRow). y.port) (sym same ∙ same_Some w o.r (sym row_at ∙ o.at)) ∙ sym o.arrival_is)

      away : (m : TerminalRow) (d : ℕ) (w : ChannelRow) → In m (member_rows t members) → AreConnected t m.switch.0 source → In d (walk_of t tree m.switch.0) → slice_get t.channels d ≡ Some w → step w.tail.0 ≡ Some d → w ≡ reversed r →
          Has r.tip.0 × (r.tip.0 ≢ source) × (parent r.tip.0 ≡ x) × (arrival r.tip.0 ≡ r.tip_port) × (depth r.tip.0 ≡ suc (depth x))
      away m d w in_m joined there row_at e same =
          let low : r.tip.0 < length t.switches = tip_low r inside in
          let from_tip : step r.tip.0 ≡ Some d = subst (λ (y : ChannelRow). step y.tail.0 ≡ Some d) same e in
          let o : OutBy r.tip.0 d = out r.tip.0 d low from_tip in
          let is_back : o.r ≡ reversed r = same_Some o.r w (sym o.at ∙ row_at) ∙ same in
          let to_x : o.r.tip.0 ≡ x = ap (λ (y : ChannelRow). y.tip.0) is_back ∙ tail in
          let over : AreConnected t source r.tip.0 = connected_on t source r.tail.0 r.tip.0 (subst (λ y. AreConnected t source y) (sym tail) h.1) (leads r inside) in (
            (low, over, inr (m, d, in_m, joined, from_tip, there)),
            (λ same_switch. none-some d (sym no_step ∙ ap (λ y. step y) (sym same_switch) ∙ from_tip)),
            o.parent_is ∙ to_x,
            o.arrival_is ∙ ap (λ (y : ChannelRow). y.port) is_back,
            o.further ∙ ap (λ y. suc (depth y)) to_x,
          )

      by_cable : CableAt x port → Has r.tip.0 × (r.tip.0 ≢ source) × (parent r.tip.0 ≡ x) × (arrival r.tip.0 ≡ r.tip_port) × (depth r.tip.0 ≡ suc (depth x))
      by_cable cable =
          let same_q : cable.q ≡ r = one_row t good cable.q r cable.inside inside (cable.tail ∙ sym tail) (cable.at_port ∙ sym at_port) in
          let w : OnWay t f members source cable.q = cable.on in
          let e : step w.row.tail.0 ≡ Some w.d = on_walk w.m w.d w.row w.is_member w.there w.at in
          elim w.same [
            | inl same ↦ absurd (towards w.d (subst (λ y. step y ≡ Some w.d) (ap (λ (y : ChannelRow). y.tail.0) (same ∙ same_q) ∙ tail) e) w.row w.at (same ∙ same_q))
            | inr same ↦ away w.m w.d w.row w.is_member w.joined w.there w.at e (same ∙ ap reversed same_q)
          ]

  abbrev ToChild : ℕ → Type 0
  ToChild y = (port c : ℕ) × (r : ChannelRow) × In port (slice_index_or ports (parent y) []) × (port ≢ arrival (parent y)) × (channel_at t (parent y) port ≡ Some c) × (slice_get t.channels c ≡ Some r) × (r.tip.0 ≡ y)

  to_child : (y : ℕ) → Has y → y ≢ source → ToChild y
  to_child y h other =
      let p : IsPassed y = passed y h other in
      let o : OutBy y p.1 = out y p.1 h.0 p.4 in
      let back : In (reversed o.r) t.channels = back_in t good o.r o.inside in
      let place : (i : ℕ) × (slice_get t.channels i ≡ Some (reversed o.r)) = place_of_in t.channels (reversed o.r) back in
      let found : channel_at t o.r.tip.0 o.r.tip_port ≡ Some place.0 = channels_are_found t place.0 (reversed o.r) good place.1 in
      let inside : In o.r.tip_port (slice_index_or ports o.r.tip.0 []) = to_port o.r.tip.0 o.r.tip_port o.low (channel_range t good (reversed o.r) back) (inr (is_cable p o)) in
      let to_parent : o.r.tip.0 ≡ parent y = sym o.parent_is in (
        o.r.tip_port,
        place.0,
        reversed o.r,
        subst (λ x. In o.r.tip_port (slice_index_or ports x [])) to_parent inside,
        (λ same. not_arrival o (parent_has y h other).0 back (same ∙ ap arrival o.parent_is)),
        ap (λ x. channel_at t x o.r.tip_port) (sym to_parent) ∙ found,
        place.1,
        o.tail,
      )
    where
      is_cable : (p : IsPassed y) → (o : OutBy y p.1) → is_tree_port t f members o.r.tip.0 o.r.tip_port ≡ true
      is_cable p o =
          let end : has_end_at o.r.tip.0 o.r.tip_port (Some o.r) ≡ true = or_right (leaves_by o.r.tip.0 o.r.tip_port o.r) (leaves_by o.r.tip.0 o.r.tip_port (reversed o.r))
          (and_from (o.r.tip.0 == o.r.tip.0) (o.r.tip_port == o.r.tip_port) (eq-eqb o.r.tip.0 o.r.tip.0 refl) (eq-eqb o.r.tip_port o.r.tip_port refl)) in
          let at : has_end_at o.r.tip.0 o.r.tip_port (slice_get t.channels p.1) ≡ true = ap (λ q. has_end_at o.r.tip.0 o.r.tip_port q) o.at ∙ end in
          list_any_from_in (λ (a : TerminalRow). list_any (λ (b : TerminalRow). is_on_route t (escape_route t f a.switch.0 b.switch.0) o.r.tip.0 o.r.tip_port) (member_rows t members)) (member_rows t members) p.0 p.2
          (list_any_from_in (λ (b : TerminalRow). is_on_route t (escape_route t f p.0.switch.0 b.switch.0) o.r.tip.0 o.r.tip_port) (member_rows t members) row row_member
          (list_any_from_in (λ c. has_end_at o.r.tip.0 o.r.tip_port (slice_get t.channels c)) (escape_route t f p.0.switch.0 source) p.1 p.5 at))

      -- the parent's port of arrival is another one
      not_arrival : {c : ℕ} (o : OutBy y c) → Has (parent y) → In (reversed o.r) t.channels → o.r.tip_port ≡ arrival o.r.tip.0 → ⊥
      not_arrival o has_parent back same = go (step o.r.tip.0) refl same
        where
          go : (q : Option ℕ) → step o.r.tip.0 ≡ q → o.r.tip_port ≡ arrival_by q → ⊥
          go None e ports_same = elim (cases_eq o.r.tip.0 source) [
            | inl at_source ↦ not_both t good row (reversed o.r) (slice_get_in t.terminals from row is_row) back at_source ports_same
            | inr apart ↦
                (let joined : AreConnected t source o.r.tip.0 = subst (λ x. AreConnected t source x) o.parent_is has_parent.1 in
                let some : (c : ℕ) × (step o.r.tip.0 ≡ Some c) = some_step o.r.tip.0 o.low joined apart in
                none-some some.0 (sym e ∙ some.1))
          ]
          go (Some d) e ports_same =
              let next_out : OutBy o.r.tip.0 d = out o.r.tip.0 d o.low e in
              let port_is : o.r.tip_port ≡ next_out.r.port = ports_same ∙ sym (ap arrival_by e) ∙ next_out.arrival_is in
              let back_again : reversed o.r ≡ next_out.r = one_row t good (reversed o.r) next_out.r back next_out.inside (sym next_out.tail) port_is in
              omega (arith, o.further, next_out.further, ap (λ (z : ChannelRow). depth z.tip.0) back_again, ap (λ x. depth x) o.tail)

  -- ---- members

  member : (x port m : ℕ) → Has x → In port (slice_index_or ports x []) → terminal_at t x port ≡ Some m → Contains members m
  member x port m h at found = elim (from_port x port h.0 at) [
    | inl here ↦
        (let w : MemberAt x port = member_at x port here in
        let same : w.n ≡ m = one_terminal t good w.n m w.r there.row w.at there.is_row (w.switch ∙ sym there.switch) (w.at_port ∙ sym there.at_port) in
        subst (λ n. Contains members n) same (Contains_from_in members w.n w.is_member))
    | inr cable ↦
        (let w : CableAt x port = cable_at x port h.0 h.1 cable in
        absurd (not_both t good there.row w.q (slice_get_in t.terminals m there.row there.is_row) w.inside (w.tail ∙ sym there.switch) (w.at_port ∙ sym there.at_port)))
  ]
    where
      there : IsFound t x port m
      there = found_at t row x port m found

  to_member : (m : ℕ) (r : TerminalRow) → Contains members m → slice_get t.terminals m ≡ Some r → AreConnected t source r.switch.0 → Has r.switch.0 × In r.port (slice_index_or ports r.switch.0 [])
  to_member m r in_m at joined = (
    (
      low,
      joined,
      elim (cases_eq r.switch.0 source) [
        | inl same ↦ inl same
        | inr other ↦
            (let c : (c : ℕ) × (step r.switch.0 ≡ Some c) = some_step r.switch.0 low joined other in
            let w : Walks t good lane f forest members source r.switch.0 = walks t good lane f forest members source r.switch.0 source_low low in
            inr (r, c.0, row_in, connected_back t good source r.switch.0 joined, c.1, subst (λ cs. In c.0 cs) (sym w.whole) (first_in w.cs c.0 w.goes (next_of r.switch.0 c.0 low c.1))))
      ],
    ),
    to_port r.switch.0 r.port low (terminal_range t good r (slice_get_in t.terminals m r at)) (inl (list_any_from_in (is_cabled_at r.switch.0 r.port) (member_rows t members) r row_in
        (and_from (r.switch.0 == r.switch.0) (r.port == r.port) (eq-eqb r.switch.0 r.switch.0 refl) (eq-eqb r.port r.port refl)))),
  )
    where
      low : r.switch.0 < length t.switches
      low = terminal_low t good r (slice_get_in t.terminals m r at)

      row_in : In r (member_rows t members)
      row_in = in_filter_map (λ n. slice_get t.terminals n) members m r (in_from_Contains members m in_m) at

      first_in : (cs : List ℕ) (c : ℕ) → GoesAlong t tree r.switch.0 cs → next tree r.switch.0 ≡ Some c → In c cs
      first_in [] c goes e = absurd (none-some c (sym goes ∙ e))
      first_in (d ∷ ds) c goes e = inl (same_Some d c (sym goes.0 ∙ e))

  arrival_cable : (x : ℕ) → Has x → x ≢ source → terminal_at t x (arrival x) ≡ None
  arrival_cable x h other = go (terminal_at t x (arrival x)) refl
    where
      go : (o : Option ℕ) → terminal_at t x (arrival x) ≡ o → terminal_at t x (arrival x) ≡ None
      go None e = e
      go (Some m) e =
          let p : IsPassed x = passed x h other in
          let o : OutBy x p.1 = out x p.1 h.0 p.4 in
          let there : IsFound t x (arrival x) m = found_at t row x (arrival x) m e in
          absurd (not_both t good there.row o.r (slice_get_in t.terminals m there.row there.is_row) o.inside (o.tail ∙ sym there.switch) (sym o.arrival_is ∙ sym there.at_port))

  differ : (x : ℕ) → Has x → Pairs (λ p q. p ≢ q) (slice_index_or ports x [])
  differ x h =
      subst (λ ps. Pairs (λ p q. p ≢ q) ps) (sym (ports_at x h.0))
      (pairs_filter (λ p q. p ≢ q) (λ p. is_member_port t members x p || is_tree_port t f members x p) (range_with_len 1 254)
      (pairs_weaker (λ p q. p < q) (λ p q. p ≢ q) (range_with_len 1 254) (λ p q in_p in_q less same. omega (arith, less, same)) (range_rises 1 254)))

  group_tree : IsGroupTree t members ports from row Has parent arrival depth (suc (length t.switches))
  group_tree = record {
    root = (source_low, (0, refl), inl refl);
    root_port = ap arrival_by no_step;
    below_top = λ x h. omega (arith, short t tree (length t.switches) x);
    differ = differ;
    connected = λ x h. h.1;
    child = child;
    parent_has = parent_has;
    to_child = to_child;
    member = member;
    to_member = to_member;
    arrival_cable = arrival_cable;
  }

  pub reaches : ReachesMembers t members ports from
  reaches = tree_reaches_members t members ports from row Has parent arrival depth (suc (length t.switches)) group_tree good is_row

  -- so many steps are enough for all copies
  pub enough : copies_within t ports (suc (suc (length t.switches))) (first_copy row) ≡ copies_within t ports (suc (length t.switches)) (first_copy row)
  enough = ends t members ports from row Has parent arrival depth (suc (length t.switches)) group_tree good is_row

pub planted_reaches : PlantedReaches
planted_reaches t groups tables index group from is are at small has =
    let listed : In group (map (planted t are.0) groups) = subst (λ xs. In group xs) are.2 (slice_get_in tables index group at) in
    let of : (members : List ℕ) × In members groups × (planted t are.0 members ≡ group) = from_map (planted t are.0) groups group listed in
    subst (λ (g : Planted). Contains g.members from → All (λ n. n < length t.terminals) g.members → ReachesMembers t g.members g.ports from) of.2
    (λ inside few. let n : from < length t.terminals = in_all (λ n. n < length t.terminals) of.0 few from (in_from_Contains of.0 from inside) in
    let row : (row : TerminalRow) × (slice_get t.terminals from ≡ Some row) = slice_get_some t.terminals from n in
    reaches t is.rows 0 are.0 are.1 of.0 from inside row.0 row.1) has small

pub planted_ends : (t : Topology) (groups : List (List ℕ)) (tables : List Planted) (index : ℕ) (group : Planted) (from : ℕ) (row : TerminalRow) → IsFabric t → ArePlanted t groups tables →
    slice_get tables index ≡ Some group → Contains group.members from → slice_get t.terminals from ≡ Some row →
    copies_within t group.ports (suc (suc (length t.switches))) (first_copy row) ≡ copies_within t group.ports (suc (length t.switches)) (first_copy row)
planted_ends t groups tables index group from row is are at has is_row =
    let listed : In group (map (planted t are.0) groups) = subst (λ xs. In group xs) are.2 (slice_get_in tables index group at) in
    let of : (members : List ℕ) × In members groups × (planted t are.0 members ≡ group) = from_map (planted t are.0) groups group listed in
    subst (λ (g : Planted). Contains g.members from → copies_within t g.ports (suc (suc (length t.switches))) (first_copy row) ≡ copies_within t g.ports (suc (length t.switches)) (first_copy row)) of.2
    (λ inside. enough t is.rows 0 are.0 are.1 of.0 from inside row is_row) has
