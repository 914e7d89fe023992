-- The ports of a group, which lie in the escape trees, form a tree towards each of its members.
use Rattle.std.proofs.Common.{◌≡◌, ◌≢◌, ℕ, zero, suc, ◌+◌, ◌<◌, ◌≤◌, ◌⊎◌, inl, inr, List, [], ◌∷◌, length, refl, sym, ◌∙◌, ap, subst, arith, Option, Some, None, Contains, All, option_map, unwrap_or}
use Rattle.std.specs.Prelude.{slice_get, IfSome}
use Rattle.std.proofs.lemmas.Option.{same_Some, none-some}
use Rattle.fab_model.specs.declared.rows.SwitchRow.{SwitchRow}
use Rattle.fab_model.specs.declared.rows.ChannelRow.{ChannelRow}
use Rattle.fab_model.specs.declared.rows.TerminalRow.{TerminalRow}
use Rattle.fab_model.specs.Topology.{Topology, ports_of, reversed}
use Rattle.fab_model.specs.Connected.{AreConnected, LeadsAlong}
use Rattle.fab_model.specs.WellFormed.{IsWellFormed, IsPort, GoesBefore}
use Rattle.fab_model.proofs.Lists.Members.{In, in_from_Contains, in_all, pairs_from_AllPairs, cases_pairs, from_filter_map}
use Rattle.fab_model.proofs.Faultless.Facts.{slice_get_in}
use Rattle.fab_tables.specs.Route.{tip}
use Rattle.fab_tables.specs.Trees.{next}
use Rattle.fab_tables.specs.TreeWalks.{GoesAlong, IsTree, walk_within, walk_of, after_channel}
use Rattle.fab_escape.specs.declared.links.Link.{Link}
use Rattle.fab_escape.specs.Forest.{Forest, root_of, link_of, escape_tree}
use Rattle.fab_escape.specs.Trees.{IsEscapeForest}
use Rattle.fab_escape.proofs.Depths.{Ascends, ascends, climbs_root}
use Rattle.fab_escape.proofs.EscapeTrees.{escape_tree_is_tree, escape_routes_lead}
use Rattle.fab_escape.proofs.NextChannels.{next_cases}
use Rattle.fab_escape.proofs.OneRoot.{roots_tell_components}
use Rattle.fab_tables.proofs.Paths.TreeWalks.{goes_walk_of}
use Rattle.fab_escape.proofs.WholeTree.{of_tree}
use Rattle.fab_mcast.specs.GroupTrees.{escape_route, member_rows}
use Rattle.fab_mcast.proofs.Separating.{Below, Parts, below_decided, parts, up_in, down_in}

-- ---- the rows of a fabric at a port

module _ (t : Topology) (good : IsWellFormed t) where
  row_in : (c : ℕ) (r : ChannelRow) → slice_get t.channels c ≡ Some r → In r t.channels
  row_in c r at = slice_get_in t.channels c r at

  pub back_in : (r : ChannelRow) → In r t.channels → In (reversed r) t.channels
  back_in r at = in_from_Contains t.channels (reversed r) (in_all (λ (x : ChannelRow). Contains t.channels (reversed x)) t.channels good.reverses r at)

  -- two channels of one port are one
  pub one_row : (r s : ChannelRow) → In r t.channels → In s t.channels → r.tail.0 ≡ s.tail.0 → r.port ≡ s.port → r ≡ s
  one_row r s at_r at_s tails same = elim (cases_pairs GoesBefore t.channels (pairs_from_AllPairs GoesBefore t.channels good.channels_rise) r s at_r at_s) [
    | inl e ↦ e
    | inr (inl goes) ↦ absurd (before r s tails same goes)
    | inr (inr goes) ↦ absurd (before s r (sym tails) (sym same) goes)
  ]
    where
      before : (x y : ChannelRow) → x.tail.0 ≡ y.tail.0 → x.port ≡ y.port → GoesBefore x y → ⊥
      before x y e f (inl less) = omega (arith, less, e)
      before x y e f (inr both) = omega (arith, both.1, f)

  pub ports_few : (s : ℕ) → ports_of t s ≤ 254
  ports_few s = go (slice_get t.switches s) refl
    where
      go : (o : Option SwitchRow) → slice_get t.switches s ≡ o → unwrap_or (option_map (λ (x : SwitchRow). x.ports) o) 0 ≤ 254
      go None e = omega arith
      go (Some x) e = in_all (λ (y : SwitchRow). y.ports ≤ 254) t.switches good.switch_ports x (slice_get_in t.switches s x e)

  pub channel_range : (r : ChannelRow) → In r t.channels → (1 ≤ r.port) × (r.port < 1 + 254)
  channel_range r at =
      let p : IsPort (ports_of t r.tail.0) r.port = in_all (λ (x : ChannelRow). IsPort (ports_of t x.tail.0) x.port) t.channels good.channel_ports r at in
      (p.0, omega (arith, p.1, ports_few r.tail.0))

  pub terminal_range : (r : TerminalRow) → In r t.terminals → (1 ≤ r.port) × (r.port < 1 + 254)
  terminal_range r at =
      let p : IsPort (ports_of t r.switch.0) r.port = in_all (λ (x : TerminalRow). IsPort (ports_of t x.switch.0) x.port) t.terminals good.terminal_ports r at in
      (p.0, omega (arith, p.1, ports_few r.switch.0))

  pub terminal_low : (r : TerminalRow) → In r t.terminals → r.switch.0 < length t.switches
  terminal_low r at = in_all (λ (x : TerminalRow). x.switch.0 < length t.switches) t.terminals good.terminal_switches r at

  -- no port has a terminal and a channel
  pub not_both : (r : TerminalRow) (c : ChannelRow) → In r t.terminals → In c t.channels → c.tail.0 ≡ r.switch.0 → c.port ≡ r.port → ⊥
  not_both r c at_r at_c same ports =
      in_all (λ (x : ChannelRow). x.tail.0 ≡ r.switch.0 → x.port ≢ r.port) t.channels
      (in_all (λ (y : TerminalRow). All (λ (x : ChannelRow). x.tail.0 ≡ y.switch.0 → x.port ≢ y.port) t.channels) t.terminals good.no_channel_there r at_r) c at_c same ports

-- ---- walks of a tree

module _ (t : Topology) (tree : List (Option ℕ)) where
  -- each channel of the walk is that of a switch
  pub of_switch : (cs : List ℕ) (u : ℕ) → GoesAlong t tree u cs → (d : ℕ) → In d cs → (v : ℕ) × (next tree v ≡ Some d)
  of_switch [] u goes d at = absurd at
  of_switch (c ∷ cs) u goes d (inl e) = (u, goes.0 ∙ ap Some e)
  of_switch (c ∷ cs) u goes d (inr at) = of_switch cs (tip t c) goes.1 d at

  -- and the walk goes on behind it
  pub goes_behind : (cs : List ℕ) (u : ℕ) → GoesAlong t tree u cs → (d e : ℕ) → In d cs → next tree (tip t d) ≡ Some e → In e cs
  goes_behind [] u goes d e at more = absurd at
  goes_behind (c ∷ []) u goes d e (inl same) more = absurd (none-some e (sym goes.1 ∙ ap (λ x. next tree (tip t x)) same ∙ more))
  goes_behind (c ∷ b ∷ cs) u goes d e (inl same) more = inr (inl (same_Some b e (sym goes.1.0 ∙ ap (λ x. next tree (tip t x)) same ∙ more)))
  goes_behind (c ∷ cs) u goes d e (inr at) more = inr (goes_behind cs (tip t c) goes.1 d e at more)

  pub short : (n s : ℕ) → length (walk_within t tree n s) ≤ n
  short zero s = omega arith
  short (suc n) s = go (λ x. short n x) (next tree s)
    where
      go : ((x : ℕ) → length (walk_within t tree n x) ≤ n) → (o : Option ℕ) → length (after_channel t (λ s'. walk_within t tree n s') o) ≤ suc n
      go rest None = omega arith
      go rest (Some c) = omega (arith, rest (tip t c))

-- ---- the cables of the routes between members

-- the route from a member to the switch has the cable
pub record OnWay (t : Topology) (f : Forest) (members : List ℕ) (to : ℕ) (r : ChannelRow) : Type 0 where
  pub m : TerminalRow
  pub is_member : In m (member_rows t members)
  pub joined : AreConnected t m.switch.0 to
  pub d : ℕ
  pub there : In d (walk_of t (escape_tree f to) m.switch.0)
  pub row : ChannelRow
  pub at : slice_get t.channels d ≡ Some row
  pub same : (row ≡ r) ⊎ (row ≡ reversed r)

module _ (t : Topology) (good : IsWellFormed t) (lane : ℕ) (f : Forest) (forest : IsEscapeForest t lane f) (members : List ℕ) where
  pub member_in : (r : TerminalRow) → In r (member_rows t members) → In r t.terminals
  member_in r at = let from : (n : ℕ) × In n members × (slice_get t.terminals n ≡ Some r) = from_filter_map (λ n. slice_get t.terminals n) members r at in slice_get_in t.terminals from.0 r from.2

  -- the walk to a switch
  pub record Walks (to u : ℕ) : Type 0 where
    pub cs : List ℕ
    pub goes : GoesAlong t (escape_tree f to) u cs
    pub whole : walk_of t (escape_tree f to) u ≡ cs

  pub walks : (to u : ℕ) → to < length t.switches → u < length t.switches → Walks to u
  walks to u low also =
      let is : IsTree t (escape_tree f to) = escape_tree_is_tree t lane f to good forest low in
      let cs : (cs : List ℕ) × GoesAlong t (escape_tree f to) u cs = is.ends u in
      record { cs = cs.0; goes = cs.1; whole = goes_walk_of t (escape_tree f to) u cs.0 is.each_switch cs.1 }

  -- a route that has a channel joins switches of one root
  one_root_of : (to u d : ℕ) (cs : List ℕ) → GoesAlong t (escape_tree f to) u cs → In d cs → root_of f u ≡ root_of f to
  one_root_of to u d [] goes at = absurd at
  one_root_of to u d (c ∷ cs) goes at = (next_cases t good lane f forest u to c (of_tree f u to c goes.0)).same

  below_root : (s x : ℕ) → x < length t.switches → Below f s x → root_of f s ≡ root_of f x
  below_root s x low w = climbs_root t good lane f forest w.0 x s w.1 low

  joined_by : (x y : ℕ) → x < length t.switches → y < length t.switches → root_of f x ≡ root_of f y → AreConnected t x y
  joined_by x y low also same = (roots_tell_components t lane f x y good forest low also).0 same

  -- the two channels of a link
  record IsCableOf (link : Link) (s : ℕ) (up : ChannelRow) : Type 0 where
    up_at : slice_get t.channels link.channel ≡ Some up
    down_at : slice_get t.channels link.reverse ≡ Some (reversed up)
    tail : root_of f up.tail.0 ≡ root_of f s
    tip_root : root_of f up.tip.0 ≡ root_of f s

  cable_of : (s : ℕ) (link : Link) → s < length t.switches → link_of f s ≡ Some link → (up : ChannelRow) × IsCableOf link s up
  cable_of s link low own =
      let by : Ascends t f s link = ascends t good lane f forest s link low own in (
        by.row,
        record {
          up_at = by.there;
          down_at = subst (λ o. IfSome o (λ (r : ChannelRow). slice_get t.channels link.reverse ≡ Some (reversed r))) by.there by.is.downward;
          tail = ap (λ x. root_of f x) by.leaves;
          tip_root = ap (λ x. root_of f x) by.comes ∙ by.same;
        },
      )

  -- each cable of a route between two members is one of a route from a member to any switch of the component
  pub on_way : (to : ℕ) (a b : TerminalRow) (c : ℕ) (r : ChannelRow) → to < length t.switches → In a (member_rows t members) → In b (member_rows t members) → In c (escape_route t f a.switch.0 b.switch.0) →
      slice_get t.channels c ≡ Some r → root_of f r.tail.0 ≡ root_of f to → OnWay t f members to r
  on_way to a b c r low in_a in_b at row_at root = by_way p.way (below_decided t good lane f forest p.s to low)
    where
      low_a : a.switch.0 < length t.switches
      low_a = terminal_low t good a (member_in a in_a)

      low_b : b.switch.0 < length t.switches
      low_b = terminal_low t good b (member_in b in_b)

      route : Walks b.switch.0 a.switch.0
      route = walks b.switch.0 a.switch.0 low_b low_a

      inside : In c route.cs
      inside = subst (λ cs. In c cs) route.whole at

      p : Parts t f a.switch.0 b.switch.0 c
      p = parts t good lane f forest b.switch.0 route.cs a.switch.0 route.goes c inside

      roots : root_of f a.switch.0 ≡ root_of f b.switch.0
      roots = one_root_of b.switch.0 a.switch.0 c route.cs route.goes inside

      cable : (up : ChannelRow) × IsCableOf p.link p.s up
      cable = cable_of p.s p.link p.low p.own

      -- the row is that of the link's channel or of its reverse
      is_up : p.link.channel ≡ c → r ≡ cable.0
      is_up e = same_Some r cable.0 (sym row_at ∙ ap (λ d. slice_get t.channels d) (sym e) ∙ cable.1.up_at)

      is_down : p.link.reverse ≡ c → r ≡ reversed cable.0
      is_down e = same_Some r (reversed cable.0) (sym row_at ∙ ap (λ d. slice_get t.channels d) (sym e) ∙ cable.1.down_at)

      go_up : (m : TerminalRow) → In m (member_rows t members) → m.switch.0 < length t.switches → Below f p.s m.switch.0 → ¬ Below f p.s to → AreConnected t m.switch.0 to → (cable.0 ≡ r) ⊎ (cable.0 ≡ reversed r) → OnWay t f members to r
      go_up m in_m low_m b none joined same =
          let w : Walks to m.switch.0 = walks to m.switch.0 low low_m in
          let leads : LeadsAlong t m.switch.0 w.cs to = subst (λ cs. LeadsAlong t m.switch.0 cs to) w.whole (escape_routes_lead t lane f good forest m.switch.0 to low joined) in
          record {
            m = m;
            is_member = in_m;
            joined = joined;
            d = p.link.channel;
            there = subst (λ cs. In p.link.channel cs) (sym w.whole) (up_in t good lane f forest to w.cs m.switch.0 p.s p.link w.goes leads p.own b none);
            row = cable.0;
            at = cable.1.up_at;
            same = same;
          }

      go_down : (m : TerminalRow) → In m (member_rows t members) → m.switch.0 < length t.switches → ¬ Below f p.s m.switch.0 → Below f p.s to → AreConnected t m.switch.0 to → (reversed cable.0 ≡ r) ⊎ (reversed cable.0 ≡ reversed r) → OnWay t f members to r
      go_down m in_m low_m none b joined same =
          let w : Walks to m.switch.0 = walks to m.switch.0 low low_m in
          let leads : LeadsAlong t m.switch.0 w.cs to = subst (λ cs. LeadsAlong t m.switch.0 cs to) w.whole (escape_routes_lead t lane f good forest m.switch.0 to low joined) in
          record {
            m = m;
            is_member = in_m;
            joined = joined;
            d = p.link.reverse;
            there = subst (λ cs. In p.link.reverse cs) (sym w.whole) (down_in t good lane f forest to w.cs m.switch.0 p.s p.link w.goes leads p.own none b);
            row = reversed cable.0;
            at = cable.1.down_at;
            same = same;
          }

      -- both members have the root of the switch
      up_root : p.link.channel ≡ c → root_of f p.s ≡ root_of f to
      up_root e = sym cable.1.tail ∙ ap (λ (x : ChannelRow). root_of f x.tail.0) (sym (is_up e)) ∙ root

      down_root : p.link.reverse ≡ c → root_of f p.s ≡ root_of f to
      down_root e = sym cable.1.tip_root ∙ ap (λ (x : ChannelRow). root_of f x.tail.0) (sym (is_down e)) ∙ root

      join_a : root_of f a.switch.0 ≡ root_of f to → AreConnected t a.switch.0 to
      join_a e = joined_by a.switch.0 to low_a low e

      join_b : root_of f b.switch.0 ≡ root_of f to → AreConnected t b.switch.0 to
      join_b e = joined_by b.switch.0 to low_b low e

      by_way : ((p.link.channel ≡ c) × Below f p.s a.switch.0 × ¬ Below f p.s b.switch.0) ⊎ ((p.link.reverse ≡ c) × Below f p.s b.switch.0 × ¬ Below f p.s a.switch.0) → Below f p.s to ⊎ (¬ Below f p.s to) → OnWay t f members to r
      by_way (inl w) (inl under) =
          go_down b in_b low_b w.2 under (join_b (sym roots ∙ sym (below_root p.s a.switch.0 low_a w.1) ∙ up_root w.0)) (inr (ap reversed (sym (is_up w.0))))
      by_way (inl w) (inr apart) = go_up a in_a low_a w.1 apart (join_a (sym (below_root p.s a.switch.0 low_a w.1) ∙ up_root w.0)) (inl (sym (is_up w.0)))
      by_way (inr w) (inl under) =
          go_down a in_a low_a w.2 under (join_a (roots ∙ sym (below_root p.s b.switch.0 low_b w.1) ∙ down_root w.0)) (inl (sym (is_down w.0)))
      by_way (inr w) (inr apart) = go_up b in_b low_b w.1 apart (join_b (sym (below_root p.s b.switch.0 low_b w.1) ∙ down_root w.0)) (inr (ap reversed (sym (is_down w.0))))
