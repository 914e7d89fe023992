-- The ports of members' terminals, and the entry of a switch port by port.
use Rattle.std.proofs.Common.{◌≡◌, ℕ, zero, suc, ◌+◌, ◌-◌, ◌<◌, ◌≤◌, inl, inr, Bool, true, false, cond, not, eqb, List, [], ◌∷◌, ◌++◌, length, map, map-id, Option, Some, None, refl, sym, ◌∙◌, ap, subst, arith}
use Rattle.std.specs.Prelude.{◌==◌, ◌||◌, slice_get, position, filter, is_some, option_map, AllPairs}
use Rattle.std.specs.List.{list_any, range_with_len, position_or_len}
use Rattle.std.specs.List.Sorted.{IsStrictlyIncreasing}
use Rattle.std.proofs.lemmas.List.{get_or-map, length-map}
use Rattle.std.proofs.lemmas.List.Kept.{AllPairs-from_increasing}
use Rattle.std.proofs.lemmas.Bool.{eqb-true, eq-eqb, and_parts, and_from, or_cases}
use Rattle.std.proofs.lemmas.List.{append-nil}
use Rattle.std.proofs.lemmas.List.FromFn.{filter_of_map_range_with_len_more}
use Rattle.std.proofs.lemmas.Option.{none-some}
use Rattle.fab_model.specs.declared.rows.ChannelRow.{ChannelRow}
use Rattle.fab_model.specs.declared.rows.TerminalId.{TerminalId}
use Rattle.fab_model.specs.declared.rows.TerminalRow.{TerminalRow}
use Rattle.fab_model.specs.Topology.{Topology, terminal_id, is_cabled_at, terminal_at, channel_at, ports_of}
use Rattle.fab_model.specs.WellFormed.{IsWellFormed, IsPort}
use Rattle.fab_model.proofs.Lists.Members.{In, in_all, from_filter_map, list_any_from_in, from_list_any}
use Rattle.fab_model.proofs.Lists.Found.{in_filter_map}
use Rattle.fab_model.proofs.Faultless.Facts.{slice_get_in}
use Rattle.fab_model.proofs.Lids.{is_some_position}
use Rattle.fab_tables.proofs.Paths.FallingRoutes.{channel_found}
use Rattle.fab_escape.specs.Forest.{Forest}
use Rattle.fab_escape.specs.Trees.{IsEscapeForest}
use Rattle.fab_mcast.specs.GroupTrees.{member_rows, is_member_port, is_tree_port, group_ports}
use Rattle.fab_mcast.specs.Ways.{IsMarkedTree}
use Rattle.fab_mcast.proofs.CopyTrees.{IsFound}
use Rattle.fab_mcast.proofs.PlantedTrees.{ports_few}
use Rattle.fab_mcast.proofs.Planting.{found_at, one_terminal}
use Rattle.fab_mcast.proofs.TreePorts.{same_bool, false_from, tree_port_channel}

-- a terminal's number is seen again
pub seen_terminal : (o : Option ℕ) → option_map (λ (id : TerminalId). id.0) (option_map terminal_id o) ≡ o
seen_terminal None = refl
seen_terminal (Some n) = refl

module _ (t : Topology) (good : IsWellFormed t) (members : List ℕ) (s port : ℕ) where
  record MemberHere : Type 0 where
    n : ℕ
    row : TerminalRow
    inside : In n members
    at : slice_get t.terminals n ≡ Some row
    switch : row.switch.0 ≡ s
    at_port : row.port ≡ port

  member_here : is_member_port t members s port ≡ true → MemberHere
  member_here e =
      let m : (m : TerminalRow) × In m (member_rows t members) × (is_cabled_at s port m ≡ true) = from_list_any (is_cabled_at s port) (member_rows t members) e in
      let k : (k : ℕ) × In k members × (slice_get t.terminals k ≡ Some m.0) = from_filter_map (λ k. slice_get t.terminals k) members m.0 m.1 in
      let both : ((m.0.switch.0 == s) ≡ true) × ((m.0.port == port) ≡ true) = and_parts (m.0.switch.0 == s) (m.0.port == port) m.2 in
      record { n = k.0; row = m.0; inside = k.1; at = k.2; switch = eqb-true m.0.switch.0 s both.0; at_port = eqb-true m.0.port port both.1 }

  some_row : (rows : List TerminalRow) (n : ℕ) → position (is_cabled_at s port) rows ≡ Some n → TerminalRow
  some_row [] n e = absurd (none-some n e)
  some_row (row ∷ rows) n e = row

  pub member_port_told : (n : ℕ) → terminal_at t s port ≡ Some n → is_member_port t members s port ≡ list_any (λ one. one == n) members
  member_port_told n e = same_bool (is_member_port t members s port) (list_any (λ one. one == n) members) to from
    where
      there : IsFound t s port n
      there = found_at t (some_row t.terminals n e) s port n e

      to : is_member_port t members s port ≡ true → list_any (λ one. one == n) members ≡ true
      to h =
          let m : MemberHere = member_here h in
          let same : m.n ≡ n = one_terminal t good m.n n m.row there.row m.at there.is_row (m.switch ∙ sym there.switch) (m.at_port ∙ sym there.at_port) in
          list_any_from_in (λ one. one == n) members m.n m.inside (eq-eqb m.n n same)

      from : list_any (λ one. one == n) members ≡ true → is_member_port t members s port ≡ true
      from h =
          let m : (m : ℕ) × In m members × ((m == n) ≡ true) = from_list_any (λ one. one == n) members h in
          let inside : In n members = subst (λ k. In k members) (eqb-true m.0 n m.2) m.1 in
          list_any_from_in (is_cabled_at s port) (member_rows t members) there.row (in_filter_map (λ k. slice_get t.terminals k) members n there.row inside there.is_row)
          (and_from (there.row.switch.0 == s) (there.row.port == port) (eq-eqb there.row.switch.0 s there.switch) (eq-eqb there.row.port port there.at_port))

  pub member_port_missing : terminal_at t s port ≡ None → is_member_port t members s port ≡ false
  member_port_missing none = false_from (is_member_port t members s port) (λ h. let m : MemberHere = member_here h in
      both (sym (is_some_position (is_cabled_at s port) t.terminals) ∙ ap (λ o. is_some o) none) (list_any_from_in (is_cabled_at s port) t.terminals m.row (slice_get_in t.terminals m.n m.row m.at)
      (and_from (m.row.switch.0 == s) (m.row.port == port) (eq-eqb m.row.switch.0 s m.switch) (eq-eqb m.row.port port m.at_port))))
    where
      both : {b : Bool} → b ≡ false → b ≡ true → ⊥
      both p q = cc

  pub member_port_few : is_member_port t members s port ≡ true → port ≤ ports_of t s
  member_port_few h =
      let m : MemberHere = member_here h in
      let p : IsPort (ports_of t m.row.switch.0) m.row.port = in_all (λ (x : TerminalRow). IsPort (ports_of t x.switch.0) x.port) t.terminals good.terminal_ports m.row (slice_get_in t.terminals m.n m.row m.at) in
      omega (arith, p.1, m.at_port, ap (λ x. ports_of t x) m.switch)

  pub channel_port_few : (c : ℕ) → channel_at t s port ≡ Some c → port ≤ ports_of t s
  channel_port_few c e =
      let there : (row : ChannelRow) × (c < length t.channels) × (slice_get t.channels c ≡ Some row) × (row.tail.0 ≡ s) × (row.port ≡ port) = channel_found t s port c e in
      let p : IsPort (ports_of t there.0.tail.0) there.0.port = in_all (λ (x : ChannelRow). IsPort (ports_of t x.tail.0) x.port) t.channels good.channel_ports there.0 (slice_get_in t.channels c there.0 there.2) in
      omega (arith, p.1, there.4, ap (λ x. ports_of t x) there.3)

-- ---- a number sought in rows that rise by it

pub any_by : {X : Type 0} (key : X → ℕ) (sought : ℕ) (xs : List X) →
    (position_or_len (λ (x : X). eqb (key x) sought) xs < length xs → list_any (λ one. one == sought) (map key xs) ≡ true)
    × (length xs ≤ position_or_len (λ (x : X). eqb (key x) sought) xs → list_any (λ one. one == sought) (map key xs) ≡ false)
any_by key sought [] = ((λ h. absurd (omega (arith, h))), (λ h. refl))
any_by {X} key sought (x ∷ xs) = go (eqb (key x) sought) (any_by key sought xs)
  where
    go : (b : Bool) →
        (position_or_len (λ (x : X). eqb (key x) sought) xs < length xs → list_any (λ one. one == sought) (map key xs) ≡ true)
        × (length xs ≤ position_or_len (λ (x : X). eqb (key x) sought) xs → list_any (λ one. one == sought) (map key xs) ≡ false) →
        (cond (not b) (1 + position_or_len (λ (x : X). eqb (key x) sought) xs) 0 < length (x ∷ xs) → (b || list_any (λ one. one == sought) (map key xs)) ≡ true)
        × (length (x ∷ xs) ≤ cond (not b) (1 + position_or_len (λ (x : X). eqb (key x) sought) xs) 0 → (b || list_any (λ one. one == sought) (map key xs)) ≡ false)
    go true rest = ((λ h. refl), (λ h. absurd (omega (arith, h))))
    go false rest = ((λ h. rest.0 (omega (arith, h))), (λ h. rest.1 (omega (arith, h))))

pub rise_by : {X : Type 0} (key : X → ℕ) (xs : List X) → IsStrictlyIncreasing (map key xs) → AllPairs (λ first second. key first < key second) xs
rise_by key xs up i j d less low = omega (
  arith,
  AllPairs-from_increasing (map key xs) up i j 0 less (omega (arith, low, length-map xs key)),
  get_or-map key xs i d 0 (omega (arith, less, low)),
  get_or-map key xs j d 0 low,
)

-- ---- ports one after the other

pub one_port_more : (p : ℕ → Bool) (port : ℕ) → 1 ≤ port → filter p (range_with_len 1 (port + 1 - 1)) ≡ filter p (range_with_len 1 (port - 1)) ++ cond (p port) (port ∷ []) []
one_port_more p port some =
    let n : port + 1 - 1 ≡ (port - 1) + 1 = omega arith in
    ap (λ k. filter p (range_with_len 1 k)) n ∙ (simp map-id at (filter_of_map_range_with_len_more p (λ x. x) 1 (port - 1) port (omega arith)))

pub port_in : (p : ℕ → Bool) (port : ℕ) (found more : List ℕ) → 1 ≤ port → found ≡ filter p (range_with_len 1 (port - 1)) → more ≡ found ++ port ∷ [] → p port ≡ true → more ≡ filter p (range_with_len 1 (port + 1 - 1))
port_in p port found more some so_far e here =
    e ∙ ap (λ (ps : List ℕ). ps ++ port ∷ []) so_far ∙ ap (λ b. filter p (range_with_len 1 (port - 1)) ++ cond b (port ∷ []) []) (sym here) ∙ sym (one_port_more p port some)

pub port_out : (p : ℕ → Bool) (port : ℕ) (found more : List ℕ) → 1 ≤ port → found ≡ filter p (range_with_len 1 (port - 1)) → more ≡ found → p port ≡ false → more ≡ filter p (range_with_len 1 (port + 1 - 1))
port_out p port found more some so_far e here =
    e ∙ so_far ∙ sym (append-nil (filter p (range_with_len 1 (port - 1)))) ∙ ap (λ b. filter p (range_with_len 1 (port - 1)) ++ cond b (port ∷ []) []) (sym here) ∙ sym (one_port_more p port some)

-- behind the last port none is listed
none_behind : (p : ℕ → Bool) (n d : ℕ) → ((port : ℕ) → n < port → p port ≡ false) → filter p (range_with_len 1 (n + d)) ≡ filter p (range_with_len 1 n)
none_behind p n zero none = let e : n + 0 ≡ n = omega arith in ap (λ k. filter p (range_with_len 1 k)) e
none_behind p n (suc d) none =
    let e : n + suc d ≡ n + d + 1 = omega arith in
    ap (λ k. filter p (range_with_len 1 k)) e ∙ (simp map-id at (filter_of_map_range_with_len_more p (λ x. x) 1 (n + d) (1 + (n + d)) refl))
    ∙ ap (λ b. filter p (range_with_len 1 (n + d)) ++ cond b ((1 + (n + d)) ∷ []) []) (none (1 + (n + d)) (omega arith)) ∙ append-nil (filter p (range_with_len 1 (n + d))) ∙ none_behind p n d none

pub all_ports : (p : ℕ → Bool) (n : ℕ) → n ≤ 254 → ((port : ℕ) → n < port → p port ≡ false) → filter p (range_with_len 1 254) ≡ filter p (range_with_len 1 n)
all_ports p n few none =
    let e : 254 ≡ n + (254 - n) = omega (arith, few) in
    ap (λ k. filter p (range_with_len 1 k)) e ∙ none_behind p n (254 - n) none

-- ---- an entry

module _ (t : Topology) (good : IsWellFormed t) (f : Forest) (forest : IsEscapeForest t 0 f) (members : List ℕ) (homes : List (Option ℕ)) (passed : List Bool) (is : IsMarkedTree t f members homes passed)
    (s : ℕ) (low : s < length t.switches) where
  abbrev is_port : ℕ → Bool
  is_port port = is_member_port t members s port || is_tree_port t f members s port

  none_over : (port : ℕ) → ports_of t s < port → is_port port ≡ false
  none_over port over = false_from (is_port port) (λ h. elim (or_cases (is_member_port t members s port) (is_tree_port t f members s port) h) [
    | inl of_member ↦ omega (arith, over, member_port_few t good members s port of_member)
    | inr cable ↦ (let c : (c : ℕ) × (channel_at t s port ≡ Some c) = tree_port_channel t good f forest members homes passed is s port low cable in omega (arith, over, channel_port_few t good members s port c.0 c.1))
  ])

  pub entry_is : (ports past : ℕ) (found : List ℕ) → ports ≡ ports_of t s → past ≡ ports + 1 → found ≡ filter is_port (range_with_len 1 (past - 1)) → found ≡ group_ports t f members s
  entry_is ports past found count end e =
      let n : past - 1 ≡ ports_of t s = omega (arith, count, end) in
      e ∙ ap (λ k. filter is_port (range_with_len 1 k)) n ∙ sym (all_ports is_port (ports_of t s) (ports_few t good s) none_over)
