-- Where the ports of a group form a tree, a packet from a member reaches each other member once: no switch gets two copies.
use Rattle.std.proofs.Common.{◌≡◌, ◌≢◌, ℕ, zero, suc, ◌+◌, ◌<◌, ◌≤◌, ◌==◌, inl, inr, Bool, true, false, List, [], ◌∷◌, length, map, refl, sym, ◌∙◌, ap, subst, arith, Option, Some, None, Contains}
use Rattle.std.specs.Prelude.{flat_map, not, slice_get, slice_index_or}
use Rattle.std.proofs.lemmas.Bool.{cases_eq, cases_order, cases_Bool, eq-eqb, eqb-true, ne_eqb, both_ways, and_parts, and_from}
use Rattle.std.proofs.lemmas.List.{length-map}
use Rattle.std.proofs.lemmas.List.Quantifiers.{position-Some}
use Rattle.std.proofs.lemmas.Option.{same_Some, get_or_from_slice_get, slice_get-get_or, slice_get_within}
use Rattle.fab_model.specs.declared.rows.ChannelRow.{ChannelRow}
use Rattle.fab_model.specs.declared.rows.TerminalRow.{TerminalRow}
use Rattle.fab_model.specs.Topology.{Topology, channel_at, terminal_at, is_cabled_at, reversed}
use Rattle.fab_model.specs.Connected.{AreConnected}
use Rattle.fab_model.specs.WellFormed.{IsWellFormed, GoesBefore, UseOtherPorts}
use Rattle.fab_model.proofs.Lists.Members.{In, Pairs, in_from_Contains, Contains_from_in, pairs_from_AllPairs, AllPairs_from_pairs, cases_pairs, from_filter, in_filter, from_filter_map, pairs_filter, pairs_filter_map, pairs_map, pairs_weaker, from_map}
use Rattle.fab_model.proofs.Finds.{position_is}
use Rattle.fab_model.proofs.Lists.Found.{in_filter_map}
use Rattle.fab_tables.proofs.Paths.FallingRoutes.{channel_found}
use Rattle.fab_model.proofs.Lists.FlatMaps.{from_flat_map, in_flat_map, pairs_flat_map, same_flat_map, few_of}
use Rattle.fab_mcast.specs.Copies.{Copy, ports_on, copy_at_end, copy_along, copies_of, reached_by, copies_within}
use Rattle.fab_mcast.specs.Spreads.{first_copy, AreCopies, reached, IsOtherMember, ReachesMembers}

-- ---- terminals and channels at ports

-- the terminal that is found at a port
pub record IsFound (t : Topology) (s port m : ℕ) : Type 0 where
  pub row : TerminalRow
  pub is_row : slice_get t.terminals m ≡ Some row
  pub switch : row.switch.0 ≡ s
  pub at_port : row.port ≡ port

-- Each switch but the source's has a parent towards it, and a port by which a copy comes from there. From its parent a port of the group leads to it,
-- and by each port of the group but that one a switch leads to a child or to a member.
pub record IsGroupTree (t : Topology) (members : List ℕ) (ports : List (List ℕ)) (from : ℕ) (row : TerminalRow) (Has : ℕ → Type 0) (parent arrival depth : ℕ → ℕ) (top : ℕ) : Type 0 where
  pub root : Has row.switch.0
  pub root_port : arrival row.switch.0 ≡ row.port
  pub below_top : (x : ℕ) → Has x → depth x < top
  pub differ : (x : ℕ) → Has x → Pairs (λ p q. p ≢ q) (slice_index_or ports x [])
  pub connected : (x : ℕ) → Has x → AreConnected t row.switch.0 x
  pub child : (x port c : ℕ) (r : ChannelRow) → Has x → In port (slice_index_or ports x []) → port ≢ arrival x → channel_at t x port ≡ Some c → slice_get t.channels c ≡ Some r →
      Has r.tip.0 × (r.tip.0 ≢ row.switch.0) × (parent r.tip.0 ≡ x) × (arrival r.tip.0 ≡ r.tip_port) × (depth r.tip.0 ≡ suc (depth x))
  pub parent_has : (y : ℕ) → Has y → y ≢ row.switch.0 → Has (parent y) × (depth y ≡ suc (depth (parent y)))
  pub to_child : (y : ℕ) → Has y → y ≢ row.switch.0 →
      (port c : ℕ) × (r : ChannelRow) × In port (slice_index_or ports (parent y) []) × (port ≢ arrival (parent y)) × (channel_at t (parent y) port ≡ Some c) × (slice_get t.channels c ≡ Some r) × (r.tip.0 ≡ y)
  pub member : (x port m : ℕ) → Has x → In port (slice_index_or ports x []) → terminal_at t x port ≡ Some m → Contains members m
  pub to_member : (m : ℕ) (r : TerminalRow) → Contains members m → slice_get t.terminals m ≡ Some r → AreConnected t row.switch.0 r.switch.0 → Has r.switch.0 × In r.port (slice_index_or ports r.switch.0 [])
  pub arrival_cable : (x : ℕ) → Has x → x ≢ row.switch.0 → terminal_at t x (arrival x) ≡ None

not_true : (b : Bool) → not b ≡ true → b ≡ false
not_true true e = absurd (cc)
not_true false e = refl

not_false : (b : Bool) → b ≡ false → not b ≡ true
not_false true e = absurd (cc)
not_false false e = refl

module _ (t : Topology) (members : List ℕ) (ports : List (List ℕ)) (from : ℕ) (row : TerminalRow) (Has : ℕ → Type 0) (parent arrival depth : ℕ → ℕ) (top : ℕ)
    (tree : IsGroupTree t members ports from row Has parent arrival depth top) where
  abbrev source : ℕ
  source = row.switch.0

  abbrev at_switch : ℕ → List ℕ
  at_switch x = slice_index_or ports x []

  abbrev within : ℕ → Copy → List Copy
  within n copy = copies_within t ports n copy

  abbrev nexts : Copy → List Copy
  nexts copy = copies_of t ports copy

  -- a copy of the tree: it comes from the parent
  abbrev Good : Copy → Type 0
  Good copy = Has copy.at × (copy.from ≡ arrival copy.at)

  -- the ports by which it is sent on
  from_ports : (copy : Copy) (port : ℕ) → Good copy → In port (ports_on ports copy) → In port (at_switch copy.at) × (port ≢ arrival copy.at)
  from_ports copy port good within =
      let r : In port (at_switch copy.at) × (not (port == copy.from) ≡ true) = from_filter (λ p. not (p == copy.from)) (at_switch copy.at) port within in
      (r.0, λ same. both_ways (port == copy.from) (not_true (port == copy.from) r.1) (eq-eqb port copy.from (same ∙ sym good.1)))

  to_ports : (copy : Copy) (port : ℕ) → Good copy → In port (at_switch copy.at) → port ≢ arrival copy.at → In port (ports_on ports copy)
  to_ports copy port good there other =
      in_filter (λ p. not (p == copy.from)) (at_switch copy.at) port there (not_false (port == copy.from) (ne_eqb port copy.from (λ same. other (same ∙ good.1))))

  -- ---- the next copies

  record IsNextBy (copy next : Copy) (port : ℕ) : Type 0 where
    channel : ℕ
    r : ChannelRow
    found : channel_at t copy.at port ≡ Some channel
    is_row : slice_get t.channels channel ≡ Some r
    at : r.tip.0 ≡ next.at
    by : r.tip_port ≡ next.from

  along_is : (copy next : Copy) (port : ℕ) → copy_along t (channel_at t copy.at port) ≡ Some next → IsNextBy copy next port
  along_is copy next port e = go (channel_at t copy.at port) refl e
    where
      end : (c : ℕ) → channel_at t copy.at port ≡ Some c → (o : Option ChannelRow) → slice_get t.channels c ≡ o → copy_at_end o ≡ Some next → IsNextBy copy next port
      end c found None is h = absurd (cc)
      end c found (Some r) is h =
          let same : record { at = r.tip.0; from = r.tip_port } ≡ next = same_Some _ next h in
          record { channel = c; r = r; found = found; is_row = is; at = ap (λ (z : Copy). z.at) same; by = ap (λ (z : Copy). z.from) same }

      go : (o : Option ℕ) → channel_at t copy.at port ≡ o → copy_along t o ≡ Some next → IsNextBy copy next port
      go None found h = absurd (cc)
      go (Some c) found h = end c found (slice_get t.channels c) refl h

  record IsNext (copy next : Copy) : Type 0 where
    good : Good next
    other : next.at ≢ source
    parent_is : parent next.at ≡ copy.at
    depth_is : depth next.at ≡ suc (depth copy.at)

  next_by : (copy next : Copy) (port : ℕ) → Good copy → In port (ports_on ports copy) → IsNextBy copy next port → IsNext copy next
  next_by copy next port good within is =
      let p : In port (at_switch copy.at) × (port ≢ arrival copy.at) = from_ports copy port good within in
      let c : Has is.r.tip.0 × (is.r.tip.0 ≢ source) × (parent is.r.tip.0 ≡ copy.at) × (arrival is.r.tip.0 ≡ is.r.tip_port) × (depth is.r.tip.0 ≡ suc (depth copy.at))
      = tree.child copy.at port is.channel is.r good.0 p.0 p.1 is.found is.is_row in
      record {
        good = (subst Has is.at c.0, sym is.by ∙ sym c.3 ∙ ap arrival is.at);
        other = λ same. c.1 (is.at ∙ same);
        parent_is = ap parent (sym is.at) ∙ c.2;
        depth_is = ap depth (sym is.at) ∙ c.4;
      }

  next_is : (copy next : Copy) → Good copy → In next (nexts copy) → IsNext copy next
  next_is copy next good within =
      let r : (port : ℕ) × In port (ports_on ports copy) × (copy_along t (channel_at t copy.at port) ≡ Some next) =
      from_filter_map (λ port. copy_along t (channel_at t copy.at port)) (ports_on ports copy) next within in
      next_by copy next r.0 good r.1 (along_is copy next r.0 r.2)

  -- each child gets a copy
  child_gets : (copy : Copy) (y : ℕ) → Good copy → Has y → y ≢ source → parent y ≡ copy.at → (next : Copy) × In next (nexts copy) × (next.at ≡ y)
  child_gets copy y good has other is =
      let c = tree.to_child y has other in
      let here : In c.0 (at_switch copy.at) = subst (λ x. In c.0 (at_switch x)) is c.3 in
      let apart : c.0 ≢ arrival copy.at = subst (λ x. c.0 ≢ arrival x) is c.4 in
      let found : channel_at t copy.at c.0 ≡ Some c.1 = ap (λ x. channel_at t x c.0) (sym is) ∙ c.5 in
      let along : copy_along t (channel_at t copy.at c.0) ≡ Some (record { at = c.2.tip.0; from = c.2.tip_port }) = ap (λ o. copy_along t o) found ∙ ap copy_at_end c.6 in
      (record { at = c.2.tip.0; from = c.2.tip_port }, in_filter_map (λ port. copy_along t (channel_at t copy.at port)) (ports_on ports copy) c.0 (record { at = c.2.tip.0; from = c.2.tip_port }) (to_ports copy c.0 good here apart) along, c.7)

  -- ---- ancestors

  -- the one switch is so many parents above the other
  abbrev Above : ℕ → ℕ → ℕ → Type 0
  Above zero x y = x ≡ y
  Above (suc k) x y = Has y × (y ≢ source) × Above k x (parent y)

  above_more : (k x y z : ℕ) → Has y → y ≢ source → parent y ≡ x → Above k y z → Above (suc k) x z
  above_more zero x y z has other is same = (subst Has same has, (λ e. other (same ∙ e)), sym is ∙ ap parent same)
  above_more (suc k) x y z has other is a = (a.0, a.1, above_more k x y (parent z) has other is a.2)

  -- the first step down
  above_first : (k x z : ℕ) → Above (suc k) x z → (y : ℕ) × Has y × (y ≢ source) × (parent y ≡ x) × Above k y z
  above_first zero x z a = (z, a.0, a.1, sym a.2, refl)
  above_first (suc k) x z a =
      let r : (y : ℕ) × Has y × (y ≢ source) × (parent y ≡ x) × Above k y (parent z) = above_first k x (parent z) a.2 in
      (r.0, r.1, r.2, r.3, (a.0, a.1, r.4))

  above_depth : (k x z : ℕ) → Above k x z → depth z ≡ k + depth x
  above_depth zero x z a = omega (arith, ap depth a)
  above_depth (suc k) x z a = omega (arith, (tree.parent_has z a.0 a.1).1, above_depth k x (parent z) a.2)

  one_above : (k x y z : ℕ) → Above k x z → Above k y z → x ≡ y
  one_above zero x y z a b = a ∙ sym b
  one_above (suc k) x y z a b = one_above k x y (parent z) a.2 b.2

  -- the source is above all
  source_above : (n y : ℕ) → Has y → depth y < n → (k : ℕ) × Above k source y
  source_above zero y has h = absurd (omega (arith, h))
  source_above (suc n) y has h = elim (cases_eq y source) [
    | inl same ↦ (0, sym same)
    | inr other ↦
        (let up : Has (parent y) × (depth y ≡ suc (depth (parent y))) = tree.parent_has y has other in
        let r : (k : ℕ) × Above k source (parent y) = source_above n (parent y) up.0 (omega (arith, h, up.1)) in
        (suc r.0, (has, other, r.1)))
  ]

  -- ---- all copies

  record IsCopyOf (n : ℕ) (copy z : Copy) : Type 0 where
    good : Good z
    k : ℕ
    near : k < n
    above : Above k copy.at z.at

  copy_is : (n : ℕ) (copy z : Copy) → Good copy → In z (within n copy) → IsCopyOf n copy z
  copy_is zero copy z good at = absurd at
  copy_is (suc n) copy z good (inl e) = record { good = subst Good e good; k = 0; near = omega arith; above = ap (λ (c : Copy). c.at) e }
  copy_is (suc n) copy z good (inr at) =
      let r : (next : Copy) × In next (nexts copy) × In z (within n next) = from_flat_map (λ next. within n next) (nexts copy) z at in
      let next : IsNext copy r.0 = next_is copy r.0 good r.1 in
      let later : IsCopyOf n r.0 z = copy_is n r.0 z next.good r.2 in
      record { good = later.good; k = suc later.k; near = omega (arith, later.near); above = above_more later.k copy.at r.0.at z.at next.good.0 next.other next.parent_is later.above }

  has_copy : (k n : ℕ) (copy : Copy) (y : ℕ) → Good copy → k < n → Above k copy.at y → (z : Copy) × In z (within n copy) × (z.at ≡ y)
  has_copy k zero copy y good h a = absurd (omega (arith, h))
  has_copy zero (suc n) copy y good h a = (copy, inl refl, a)
  has_copy (suc k) (suc n) copy y good h a =
      let first : (w : ℕ) × Has w × (w ≢ source) × (parent w ≡ copy.at) × Above k w y = above_first k copy.at y a in
      let next : (next : Copy) × In next (nexts copy) × (next.at ≡ first.0) = child_gets copy first.0 good first.1 first.2 first.3 in
      let r : (z : Copy) × In z (within n next.0) × (z.at ≡ y) = has_copy k n next.0 y (next_is copy next.0 good next.1).good (omega (arith, h)) (subst (λ x. Above k x y) (sym next.2) first.4) in
      (r.0, inr (in_flat_map (λ c. within n c) (nexts copy) next.0 r.0 next.1 r.1), r.2)

  -- none comes later
  no_later : (n : ℕ) (copy : Copy) → Good copy → top ≤ depth copy.at + n → within (suc n) copy ≡ within n copy
  no_later zero copy good h = absurd (omega (arith, h, tree.below_top copy.at good.0))
  no_later (suc n) copy good h =
      ap (λ cs. copy ∷ cs) (same_flat_map (λ next. within (suc n) next) (λ next. within n next) (nexts copy)
      (λ next at. let is : IsNext copy next = next_is copy next good at in no_later n next is.good (omega (arith, h, is.depth_is))))

  -- ---- no switch gets two

  abbrev AtOthers : Copy → Copy → Type 0
  AtOthers u v = u.at ≢ v.at

  module _ (well : IsWellFormed t) (is_row : slice_get t.terminals from ≡ Some row) where
    -- two channels that come to one port are one cable's
    one_far_end : (c d : ℕ) (r s : ChannelRow) → slice_get t.channels c ≡ Some r → slice_get t.channels d ≡ Some s → r.tip.0 ≡ s.tip.0 → r.tip_port ≡ s.tip_port → r.port ≡ s.port
    one_far_end c d r s at_c at_d tips tip_ports =
        elim (cases_pairs GoesBefore t.channels (pairs_from_AllPairs GoesBefore t.channels well.channels_rise) (reversed r) (reversed s) (back c r at_c) (back d s at_d)) [
          | inl same ↦ ap (λ (x : ChannelRow). x.tip_port) same
          | inr (inl goes) ↦ absurd (before (reversed r) (reversed s) tips tip_ports goes)
          | inr (inr goes) ↦ absurd (before (reversed s) (reversed r) (sym tips) (sym tip_ports) goes)
        ]
      where
        back : (c : ℕ) (r : ChannelRow) → slice_get t.channels c ≡ Some r → In (reversed r) t.channels
        back c r at =
            let here : Contains t.channels (reversed (slice_index_or t.channels c r)) = well.reverses c r (slice_get_within t.channels c r at) in
            in_from_Contains t.channels (reversed r) (subst (λ x. Contains t.channels (reversed x)) (get_or_from_slice_get t.channels c r r at) here)

        before : (x y : ChannelRow) → x.tail.0 ≡ y.tail.0 → x.port ≡ y.port → GoesBefore x y → ⊥
        before x y e f (inl less) = omega (arith, less, e)
        before x y e f (inr both) = omega (arith, both.1, f)

    abbrev OtherPorts : Copy → ℕ → ℕ → Type 0
    OtherPorts copy p q = (p ≢ q) × In p (ports_on ports copy) × In q (ports_on ports copy)

    ports_differ : (copy : Copy) → Good copy → Pairs (OtherPorts copy) (ports_on ports copy)
    ports_differ copy good =
        pairs_weaker (λ p q. p ≢ q) (OtherPorts copy) (ports_on ports copy) (λ p q in_p in_q other. (other, in_p, in_q))
        (pairs_filter (λ p q. p ≢ q) (λ p. not (p == copy.from)) (at_switch copy.at) (tree.differ copy.at good.0))

    nexts_differ : (copy : Copy) → Good copy → Pairs AtOthers (nexts copy)
    nexts_differ copy good = pairs_filter_map (OtherPorts copy) AtOthers (λ port. copy_along t (channel_at t copy.at port)) apart (ports_on ports copy) (ports_differ copy good)
      where
        leaves : (port c : ℕ) (r : ChannelRow) → channel_at t copy.at port ≡ Some c → slice_get t.channels c ≡ Some r → r.port ≡ port
        leaves port c r found at =
            let here : (row : ChannelRow) × (c < length t.channels) × (slice_get t.channels c ≡ Some row) × (row.tail.0 ≡ copy.at) × (row.port ≡ port) = channel_found t copy.at port c found in
            ap (λ (x : ChannelRow). x.port) (same_Some r here.0 (sym at ∙ here.2)) ∙ here.4

        apart : (p q : ℕ) (u v : Copy) → copy_along t (channel_at t copy.at p) ≡ Some u → copy_along t (channel_at t copy.at q) ≡ Some v → OtherPorts copy p q → u.at ≢ v.at
        apart p q u v e f o same =
            let a : IsNextBy copy u p = along_is copy u p e in
            let b : IsNextBy copy v q = along_is copy v q f in
            let good_u : Good u = (next_by copy u p good o.1 a).good in
            let good_v : Good v = (next_by copy v q good o.2 b).good in
            let tips : a.r.tip.0 ≡ b.r.tip.0 = a.at ∙ same ∙ sym b.at in
            let tip_ports : a.r.tip_port ≡ b.r.tip_port = a.by ∙ good_u.1 ∙ ap arrival same ∙ sym good_v.1 ∙ sym b.by in
            o.0 (sym (leaves p a.channel a.r a.found a.is_row) ∙ one_far_end a.channel b.channel a.r b.r a.is_row b.is_row tips tip_ports ∙ leaves q b.channel b.r b.found b.is_row)

    all_differ : (n : ℕ) (copy : Copy) → Good copy → Pairs AtOthers (within n copy)
    all_differ zero copy good = tt
    all_differ (suc n) copy good =
        (first, pairs_flat_map AtOthers AtOthers (λ next. within n next) (nexts copy) (λ next at. all_differ n next (next_is copy next good at).good) across (nexts_differ copy good))
      where
        first : (z : Copy) → In z (flat_map (λ next. within n next) (nexts copy)) → copy.at ≢ z.at
        first z at same =
            let r : (next : Copy) × In next (nexts copy) × In z (within n next) = from_flat_map (λ next. within n next) (nexts copy) z at in
            let next : IsNext copy r.0 = next_is copy r.0 good r.1 in
            let is : IsCopyOf n r.0 z = copy_is n r.0 z next.good r.2 in
            omega (arith, above_depth is.k r.0.at z.at is.above, next.depth_is, ap depth same)

        across : (d e : Copy) → In d (nexts copy) → In e (nexts copy) → AtOthers d e → (u v : Copy) → In u (within n d) → In v (within n e) → AtOthers u v
        across d e at_d at_e other u v in_u in_v same =
            let next_d : IsNext copy d = next_is copy d good at_d in
            let next_e : IsNext copy e = next_is copy e good at_e in
            let a : IsCopyOf n d u = copy_is n d u next_d.good in_u in
            let b : IsCopyOf n e v = copy_is n e v next_e.good in_v in
            let steps : b.k ≡ a.k = omega (arith, above_depth a.k d.at u.at a.above, above_depth b.k e.at v.at b.above, next_d.depth_is, next_e.depth_is, ap depth same) in
            let also : Above a.k e.at u.at = subst (λ x. Above a.k e.at x) (sym same) (subst (λ k. Above k e.at v.at) steps b.above) in
            other (one_above a.k d.at e.at u.at a.above also)

    -- ---- the whole spread

    abbrev all : List Copy
    all = within top (first_copy row)

    first_good : Good (first_copy row)
    first_good = (tree.root, sym tree.root_port)

    are_copies : AreCopies t ports row (within top (first_copy row))
    are_copies = record { steps = top; are = refl; no_more = no_later top (first_copy row) first_good (omega arith) }

    -- and so many steps are enough for all copies
    pub ends : within (suc top) (first_copy row) ≡ within top (first_copy row)
    ends = no_later top (first_copy row) first_good (omega arith)

    -- each switch of the tree gets a copy
    gets : (x : ℕ) → Has x → (z : Copy) × In z all × (z.at ≡ x)
    gets x has =
        let k : (k : ℕ) × Above k source x = source_above top x has (tree.below_top x has) in
        has_copy k.0 top (first_copy row) x first_good (omega (arith, above_depth k.0 source x k.1, tree.below_top x has)) k.1

    copy_good : (z : Copy) → In z all → Good z
    copy_good z at = (copy_is top (first_copy row) z first_good at).good

    few_copies : (component : List ℕ) → ((s : ℕ) → AreConnected t source s → Contains component s) → length all ≤ length component
    few_copies component each =
        omega (
          arith,
          length-map all (λ (z : Copy). z.at),
          few_of (map (λ (z : Copy). z.at) all) component
              (pairs_map (λ m n. m ≢ n) (λ (z : Copy). z.at) all (all_differ top (first_copy row) first_good))
              (λ n at. let z : (z : Copy) × In z all × (z.at ≡ n) = from_map (λ (z : Copy). z.at) all n at in
              in_from_Contains component n (each n (subst (λ x. AreConnected t source x) z.2 (tree.connected z.0.at (copy_good z.0 z.1).0)))),
        )

    -- ---- the terminals that are reached

    found_terminal : (s port m : ℕ) → terminal_at t s port ≡ Some m → IsFound t s port m
    found_terminal s port m e =
        let some : TerminalRow = row in
        let found : (m < length t.terminals) × (is_cabled_at s port (slice_index_or t.terminals m some) ≡ true) × ((k : ℕ) → k < m → is_cabled_at s port (slice_index_or t.terminals k some) ≡ false) =
        position-Some (is_cabled_at s port) t.terminals m some e in
        let r : TerminalRow = slice_index_or t.terminals m some in
        let parts : ((r.switch.0 == s) ≡ true) × ((r.port == port) ≡ true) = and_parts (r.switch.0 == s) (r.port == port) found.1 in
        record { row = r; is_row = slice_get-get_or t.terminals m some found.0; switch = eqb-true r.switch.0 s parts.0; at_port = eqb-true r.port port parts.1 }

    -- two terminals at one port are one
    one_at_port : (m n : ℕ) (r s : TerminalRow) → slice_get t.terminals m ≡ Some r → slice_get t.terminals n ≡ Some s → r.switch.0 ≡ s.switch.0 → r.port ≡ s.port → m ≡ n
    one_at_port m n r s x y switches same = elim (cases_order m n) [
      | inl e ↦ e
      | inr (inl less) ↦ absurd (apart m n r s x y less switches same)
      | inr (inr more) ↦ absurd (apart n m s r y x more (sym switches) (sym same))
    ]
      where
        apart : (i j : ℕ) (a b : TerminalRow) → slice_get t.terminals i ≡ Some a → slice_get t.terminals j ≡ Some b → i < j → a.switch.0 ≡ b.switch.0 → a.port ≡ b.port → ⊥
        apart i j a b x y less switches same =
            let differ : UseOtherPorts (slice_index_or t.terminals i a) (slice_index_or t.terminals j a) = well.switch_ports_differ i j a less (slice_get_within t.terminals j b y) in
            let others : UseOtherPorts a b =
            subst (λ z. UseOtherPorts a z) (get_or_from_slice_get t.terminals j b a y) (subst (λ z. UseOtherPorts z (slice_index_or t.terminals j a)) (get_or_from_slice_get t.terminals i a a x) differ) in
            others switches same

    to_terminal : (m : ℕ) (r : TerminalRow) → slice_get t.terminals m ≡ Some r → terminal_at t r.switch.0 r.port ≡ Some m
    to_terminal m r at =
        position_is (is_cabled_at r.switch.0 r.port) t.terminals m r (slice_get_within t.terminals m r at)
        (subst (λ x. is_cabled_at r.switch.0 r.port x ≡ true) (sym (get_or_from_slice_get t.terminals m r r at)) (and_from (r.switch.0 == r.switch.0) (r.port == r.port) (eq-eqb r.switch.0 r.switch.0 refl) (eq-eqb r.port r.port refl)))
        (λ k less. none k less)
      where
        none : (k : ℕ) → k < m → is_cabled_at r.switch.0 r.port (slice_index_or t.terminals k r) ≡ false
        none k less = elim (cases_Bool (is_cabled_at r.switch.0 r.port (slice_index_or t.terminals k r))) [
          | inr fails ↦ fails
          | inl holds ↦
              (let x : TerminalRow = slice_index_or t.terminals k r in
              let parts : ((x.switch.0 == r.switch.0) ≡ true) × ((x.port == r.port) ≡ true) = and_parts (x.switch.0 == r.switch.0) (x.port == r.port) holds in
              let there : slice_get t.terminals k ≡ Some x = slice_get-get_or t.terminals k r (omega (arith, less, slice_get_within t.terminals m r at)) in
              absurd (omega (arith, less, one_at_port k m x r there at (eqb-true x.switch.0 r.switch.0 parts.0) (eqb-true x.port r.port parts.1))))
        ]

    abbrev found_by : Copy → List ℕ
    found_by copy = reached_by t ports copy

    record IsReached (copy : Copy) (m : ℕ) : Type 0 where
      port : ℕ
      there : In port (at_switch copy.at)
      other : port ≢ arrival copy.at
      at : terminal_at t copy.at port ≡ Some m

    reached_is : (copy : Copy) (m : ℕ) → Good copy → In m (found_by copy) → IsReached copy m
    reached_is copy m good within =
        let r : (port : ℕ) × In port (ports_on ports copy) × (terminal_at t copy.at port ≡ Some m) = from_filter_map (λ port. terminal_at t copy.at port) (ports_on ports copy) m within in
        let p : In r.0 (at_switch copy.at) × (r.0 ≢ arrival copy.at) = from_ports copy r.0 good r.1 in
        record { port = r.0; there = p.0; other = p.1; at = r.2 }

    -- a terminal that is reached is another member
    to_member : (m : ℕ) → In m (flat_map found_by all) → IsOtherMember t members from m
    to_member m within =
        let r : (z : Copy) × In z all × In m (found_by z) = from_flat_map found_by all m within in
        let good : Good r.0 = copy_good r.0 r.1 in
        let is : IsReached r.0 m = reached_is r.0 m good r.2 in
        let f : IsFound t r.0.at is.port m = found_terminal r.0.at is.port m is.at in
        record {
          row = row;
          other_row = f.row;
          is_member = tree.member r.0.at is.port m good.0 is.there is.at;
          differs = λ same. itself r.0 m is m f same;
          from_row = is_row;
          to_row = f.is_row;
          connected = subst (λ x. AreConnected t source x) (sym f.switch) (tree.connected r.0.at good.0);
        }
      where
        itself : (z : Copy) → (n : ℕ) → (is : IsReached z n) → (m : ℕ) → IsFound t z.at is.port m → m ≡ from → ⊥
        itself z n is m f same =
            let one : f.row ≡ row = same_Some f.row row (sym f.is_row ∙ ap (λ k. slice_get t.terminals k) same ∙ is_row) in
            let here : source ≡ z.at = ap (λ (r : TerminalRow). r.switch.0) (sym one) ∙ f.switch in
            is.other (sym f.at_port ∙ ap (λ (r : TerminalRow). r.port) one ∙ sym tree.root_port ∙ ap arrival here)

    -- and each other member is reached
    from_member : (m : ℕ) → IsOtherMember t members from m → In m (flat_map found_by all)
    from_member m is =
        let one : is.row ≡ row = same_Some is.row row (sym is.from_row ∙ is_row) in
        let joined : AreConnected t source is.other_row.switch.0 = subst (λ (r : TerminalRow). AreConnected t r.switch.0 is.other_row.switch.0) one is.connected in
        let here : Has is.other_row.switch.0 × In is.other_row.port (at_switch is.other_row.switch.0) = tree.to_member m is.other_row is.is_member is.to_row joined in
        let z : (z : Copy) × In z all × (z.at ≡ is.other_row.switch.0) = gets is.other_row.switch.0 here.0 in
        let found : terminal_at t is.other_row.switch.0 is.other_row.port ≡ Some m = to_terminal m is.other_row is.to_row in
        let there : In is.other_row.port (at_switch z.0.at) = subst (λ x. In is.other_row.port (at_switch x)) (sym z.2) here.1 in
        let at : terminal_at t z.0.at is.other_row.port ≡ Some m = ap (λ x. terminal_at t x is.other_row.port) z.2 ∙ found in
        let apart : is.other_row.port ≢ arrival z.0.at = λ same. not_arrival is here.0 found (same ∙ ap arrival z.2) in
        in_flat_map found_by all z.0 m z.1 (in_filter_map (λ port. terminal_at t z.0.at port) (ports_on ports z.0) is.other_row.port m (to_ports z.0 is.other_row.port (copy_good z.0 z.1) there apart) at)
      where
        not_arrival : (is : IsOtherMember t members from m) → Has is.other_row.switch.0 → terminal_at t is.other_row.switch.0 is.other_row.port ≡ Some m → is.other_row.port ≡ arrival is.other_row.switch.0 → ⊥
        not_arrival is has found same = elim (cases_eq is.other_row.switch.0 source) [
          | inl at_source ↦ is.differs (one_at_port m from is.other_row row is.to_row is_row at_source (same ∙ ap arrival at_source ∙ tree.root_port))
          | inr elsewhere ↦ nothing m (sym (tree.arrival_cable is.other_row.switch.0 has elsewhere) ∙ ap (λ port. terminal_at t is.other_row.switch.0 port) (sym same) ∙ found)
        ]
          where
            nothing : (k : ℕ) → None ≡ Some k → ⊥
            nothing k e = cc

    -- each once
    once : Pairs (λ m n. m ≢ n) (flat_map found_by all)
    once = pairs_flat_map (λ m n. m ≢ n) AtOthers found_by all of_one of_two (all_differ top (first_copy row) first_good)
      where
        of_one : (z : Copy) → In z all → Pairs (λ m n. m ≢ n) (found_by z)
        of_one z at =
            pairs_filter_map (OtherPorts z) (λ m n. m ≢ n) (λ port. terminal_at t z.at port) (λ p q m n e f o same.
            o.0 (sym (found_terminal z.at p m e).at_port ∙ one_port (found_terminal z.at p m e).row (found_terminal z.at q n f).row (sym (found_terminal z.at p m e).is_row ∙ ap (λ k. slice_get t.terminals k) same ∙ (found_terminal z.at q n f).is_row) ∙ (found_terminal z.at q n f).at_port))
            (ports_on ports z) (ports_differ z (copy_good z at))
          where
            one_port : (r s : TerminalRow) → Some r ≡ Some s → r.port ≡ s.port
            one_port r s e = ap (λ (x : TerminalRow). x.port) (same_Some r s e)

        of_two : (z w : Copy) → In z all → In w all → AtOthers z w → (m n : ℕ) → In m (found_by z) → In n (found_by w) → m ≢ n
        of_two z w at_z at_w other m n in_m in_n same =
            let a : IsReached z m = reached_is z m (copy_good z at_z) in_m in
            let b : IsReached w n = reached_is w n (copy_good w at_w) in_n in
            let f : IsFound t z.at a.port m = found_terminal z.at a.port m a.at in
            let g : IsFound t w.at b.port n = found_terminal w.at b.port n b.at in
            let one : f.row ≡ g.row = same_Some f.row g.row (sym f.is_row ∙ ap (λ k. slice_get t.terminals k) same ∙ g.is_row) in
            other (sym f.switch ∙ ap (λ (r : TerminalRow). r.switch.0) one ∙ g.switch)

    pub tree_reaches_members : ReachesMembers t members ports from
    tree_reaches_members = record {
      row = row;
      is_row = is_row;
      all = all;
      copies = are_copies;
      members_alone = λ other. (
        (λ h. to_member other (in_from_Contains (reached t ports all) other h)),
        (λ is. Contains_from_in (reached t ports all) other (from_member other is)),
      );
      once = AllPairs_from_pairs (λ x y. x ≢ y) (reached t ports all) once;
      few_copies = few_copies;
    }
