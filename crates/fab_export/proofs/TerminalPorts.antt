-- The terminals that are met port by port are those of the switch, by port.
use Rattle.std.proofs.Common.{◌≡◌, ◌≢◌, ℕ, ◌<◌, ◌≤◌, inl, inr, Bool, true, false, cond, List, [], ◌∷◌, ◌++◌, length, Option, Some, None, refl, sym, ◌∙◌, ap, subst, arith, map, nat_lt, slice_get}
use Rattle.std.specs.Prelude.{filter, find, flat_map, position, option_map, unwrap_or, ◌==◌}
use Rattle.std.specs.List.{range_with_len, position_or_len}
use Rattle.std.specs.Option.{option_to_list}
use Rattle.std.proofs.lemmas.Bool.{eqb-true, eq-eqb, cases_order}
use Rattle.std.proofs.lemmas.List.Folds.{find_at}
use Rattle.std.proofs.lemmas.Option.{same_Some, slice_get_past}
use Rattle.fab_model.specs.declared.rows.SwitchRow.{SwitchRow}
use Rattle.fab_model.specs.declared.rows.TerminalId.{TerminalId}
use Rattle.fab_model.specs.declared.rows.TerminalRow.{TerminalRow}
use Rattle.fab_model.specs.Topology.{Topology, is_cabled_at, guid_of, ports_of, terminal_id}
use Rattle.fab_model.specs.WellFormed.{IsFabric, IsPort, UseOtherPorts}
use Rattle.fab_model.proofs.Lists.FlatMaps.{in_flat_map, from_flat_map, pairs_flat_map}
use Rattle.fab_model.proofs.Lists.Found.{find_only, from_find, in_range, range_rises, rising_same}
use Rattle.fab_model.proofs.Lists.InOrder.{from_in_order, in_in_order, rise_in_order, AreApart, Goes}
use Rattle.fab_model.proofs.Lists.Members.{In, Pairs, in_all, in_filter, from_filter, pairs_from_AllPairs, pairs_filter, pairs_weaker, cases_pairs}
use Rattle.fab_dump.specs.Writing.{lines_text}
use Rattle.fab_dump.proofs.Writing.Rows.{lines_added}
use Rattle.fab_export.specs.LevelsText.{port_guid_line}
use Rattle.fab_export.specs.PortGuids.{by_port, terminals_at, terminal_guids, source_guids, cabled_at, guids_at}
use Rattle.fab_export.proofs.ListTests.{both_true, and_true}

-- ---- a row that is found at its place

found_step : {X : Type 0} (xs : List X) (place : ℕ) (test : Bool) (i : ℕ) → cond test (Some place) None ≡ Some i → slice_get xs place ≡ slice_get xs i
found_step xs place true i e = ap (slice_get xs) cc
found_step xs place false i e = cc

found : {X : Type 0} (p : X → Bool) (xs : List X) (i : ℕ) (x : X) → position p xs ≡ Some i → slice_get xs i ≡ Some x → find p xs ≡ Some x
found p xs i x e h = find_at p xs ∙ found_step xs (position_or_len p xs) (nat_lt (position_or_len p xs) (length xs)) i e ∙ h

none_step : {X : Type 0} (xs : List X) (place : ℕ) (test : Bool) → nat_lt place (length xs) ≡ test → cond test (Some place) None ≡ None → slice_get xs place ≡ None
none_step xs place true e h = cc
none_step xs place false e h = slice_get_past xs place (grind (arith, e))

none_found : {X : Type 0} (p : X → Bool) (xs : List X) → position p xs ≡ None → find p xs ≡ None
none_found p xs e = find_at p xs ∙ none_step xs (position_or_len p xs) (nat_lt (position_or_len p xs) (length xs)) refl e

given_some : (o : Option ℕ) (id : TerminalId) → option_map terminal_id o ≡ Some id → o ≡ Some id.0
given_some None id e = cc
given_some (Some n) id e = ap (λ (o : Option TerminalId). option_map (λ (i : TerminalId). i.0) o) e

given_none : (o : Option ℕ) → option_map terminal_id o ≡ None → o ≡ None
given_none None e = refl
given_none (Some n) e = cc

-- what a call tells of the terminal at a port
pub guids_of_some : (t : Topology) (s port : ℕ) (id : TerminalId) (row : TerminalRow) → option_map terminal_id (position (is_cabled_at s port) t.terminals) ≡ Some id → slice_get t.terminals id.0 ≡ Some row
    → guids_at t s port ≡ row.port_guid ∷ []
guids_of_some t s port id row told there =
    ap (λ (o : Option TerminalRow). map (λ (r : TerminalRow). r.port_guid) (option_to_list o))
    (found (is_cabled_at s port) t.terminals id.0 row (given_some (position (is_cabled_at s port) t.terminals) id told) there)

pub guids_of_none : (t : Topology) (s port : ℕ) → option_map terminal_id (position (is_cabled_at s port) t.terminals) ≡ None → guids_at t s port ≡ []
guids_of_none t s port told =
    ap (λ (o : Option TerminalRow). map (λ (r : TerminalRow). r.port_guid) (option_to_list o))
    (none_found (is_cabled_at s port) t.terminals (given_none (position (is_cabled_at s port) t.terminals) told))

-- ---- all ports of a switch

by_port_along : (x y z : TerminalRow) → by_port x y ≡ true → by_port y z ≡ true → by_port x z ≡ true
by_port_along x y z e f = grind (arith, e, f)

one_way : (x y : TerminalRow) → by_port x y ≡ true → by_port y x ≡ true → ⊥
one_way x y e f = grind (arith, e, f)

single : {X : Type 0} (R : X → X → Type 0) (o : Option X) → Pairs R (option_to_list o)
single R None = tt
single R (Some x) = (λ y within. absurd within, tt)

of_single : {X : Type 0} (o : Option X) (x : X) → In x (option_to_list o) → o ≡ Some x
of_single None x within = absurd within
of_single (Some y) x (inl e) = ap Some e
of_single (Some y) x (inr within) = absurd within

in_single : {X : Type 0} (o : Option X) (x : X) → o ≡ Some x → In x (option_to_list o)
in_single None x e = absurd cc
in_single (Some y) x e = inl (same_Some y x e)

map_flat_map : {X Y Z : Type 0} (f : Y → Z) (g : X → List Y) (xs : List X) → flat_map (λ x. map f (g x)) xs ≡ map f (flat_map g xs)
map_flat_map f g [] = refl
map_flat_map f g (x ∷ xs) = ap (λ zs. map f (g x) ++ zs) (map_flat_map f g xs) ∙ joined (g x)
  where
    joined : (ys : List _) → map f ys ++ map f (flat_map g xs) ≡ map f (ys ++ flat_map g xs)
    joined [] = refl
    joined (y ∷ ys) = ap (λ zs. f y ∷ zs) (joined ys)

module _ (t : Topology) (kept : IsFabric t) (s : ℕ) where
  -- the terminal met at a port
  cabled : (port : ℕ) (row : TerminalRow) → In row (cabled_at t s port) → In row t.terminals × (row.switch.0 ≡ s) × (row.port ≡ port)
  cabled port row within =
      let r = from_find (is_cabled_at s port) t.terminals row (of_single (find (is_cabled_at s port) t.terminals) row within) in
      let both = both_true (row.switch.0 == s) (row.port == port) r.1 in
      (r.0, eqb-true row.switch.0 s both.0, eqb-true row.port port both.1)

  others : Pairs UseOtherPorts t.terminals
  others = pairs_from_AllPairs UseOtherPorts t.terminals kept.rows.switch_ports_differ

  is_at : (row : TerminalRow) → In row t.terminals → row.switch.0 ≡ s → In row (cabled_at t s row.port)
  is_at row within at = in_single (find (is_cabled_at s row.port) t.terminals) row
      (find_only (is_cabled_at s row.port) t.terminals row within (and_true (row.switch.0 == s) (row.port == row.port) (eq-eqb row.switch.0 s at) (eq-eqb row.port row.port refl)) only)
    where
      only : (y : TerminalRow) → In y t.terminals → is_cabled_at s row.port y ≡ true → y ≡ row
      only y in_y is =
          let both = both_true (y.switch.0 == s) (y.port == row.port) is in
          let same_switch : y.switch.0 ≡ row.switch.0 = eqb-true y.switch.0 s both.0 ∙ sym at in
          let same_port : y.port ≡ row.port = eqb-true y.port row.port both.1 in
          elim (cases_pairs UseOtherPorts t.terminals others y row in_y within) [
            | inl e ↦ e
            | inr (inl apart) ↦ absurd (apart same_switch same_port)
            | inr (inr apart) ↦ absurd (apart (sym same_switch) (sym same_port))
          ]

  here : TerminalRow → Bool
  here row = row.switch.0 == s

  apart : (x y : TerminalRow) → In x (filter here t.terminals) → In y (filter here t.terminals) → UseOtherPorts x y → AreApart by_port x y
  unfolding here
  apart x y in_x in_y differ =
      let at_x = from_filter here t.terminals x in_x in
      let at_y = from_filter here t.terminals y in_y in
      let ports : x.port ≢ y.port = differ (eqb-true x.switch.0 s at_x.1 ∙ sym (eqb-true y.switch.0 s at_y.1)) in
      elim (cases_order x.port y.port) [
        | inl e ↦ absurd (ports e)
        | inr (inl less) ↦ inl (grind (arith, less))
        | inr (inr more) ↦ inr (grind (arith, more))
      ]

  pub by_ports : (n : ℕ) → ports_of t s ≡ n → flat_map (cabled_at t s) (range_with_len 1 n) ≡ terminals_at t s
  unfolding here
  by_ports n many = rising_same (Goes by_port) one_way (flat_map (cabled_at t s) (range_with_len 1 n)) (terminals_at t s)
      (pairs_flat_map (Goes by_port) (λ (a b : ℕ). a < b) (cabled_at t s) (range_with_len 1 n) (λ port within. single (Goes by_port) (find (is_cabled_at s port) t.terminals))
      (λ a b in_a in_b less u v in_u in_v. let at_u = cabled a u in_u in let at_v = cabled b v in_v in let e : u.port ≡ a = at_u.2 in let f : v.port ≡ b = at_v.2 in let lower : u.port < v.port = omega (arith, less, e, f) in grind (arith, lower)) (range_rises 1 n))
      (rise_in_order by_port by_port_along (filter here t.terminals) (pairs_weaker UseOtherPorts (AreApart by_port) (filter here t.terminals) apart (pairs_filter UseOtherPorts here t.terminals others)))
      to from
    where
      to : (row : TerminalRow) → In row (flat_map (cabled_at t s) (range_with_len 1 n)) → In row (terminals_at t s)
      to row within =
          let r = from_flat_map (cabled_at t s) (range_with_len 1 n) row within in
          let at = cabled r.0 row r.2 in
          in_in_order by_port (filter here t.terminals) row (in_filter here t.terminals row at.0 (eq-eqb row.switch.0 s at.1))

      from : (row : TerminalRow) → In row (terminals_at t s) → In row (flat_map (cabled_at t s) (range_with_len 1 n))
      from row within =
          let r = from_filter here t.terminals row (from_in_order by_port (filter here t.terminals) row within) in
          let at : row.switch.0 ≡ s = eqb-true row.switch.0 s r.1 in
          let port : IsPort (ports_of t row.switch.0) row.port = in_all (λ (r : TerminalRow). IsPort (ports_of t r.switch.0) r.port) t.terminals kept.rows.terminal_ports row r.0 in
          let low : row.port ≤ n = subst (λ (k : ℕ). row.port ≤ k) (ap (ports_of t) at ∙ many) port.1 in
          let some = port.0 in
          in_flat_map (cabled_at t s) (range_with_len 1 n) row.port row (in_range 1 n row.port (omega (arith, some)) (omega (arith, low))) (is_at row r.0 at)

  -- the port GUIDs met at the ports, each with its lines
  pub guids_by_ports : {A : Type 0} (line : ℕ → A) (n : ℕ) → ports_of t s ≡ n → flat_map (λ port. map line (guids_at t s port)) (range_with_len 1 n) ≡ map line (terminal_guids t s)
  guids_by_ports line n many =
      map_flat_map line (guids_at t s) (range_with_len 1 n)
      ∙ ap (map line) (map_flat_map (λ (row : TerminalRow). row.port_guid) (cabled_at t s) (range_with_len 1 n))
      ∙ ap (λ (rows : List TerminalRow). map line (map (λ (row : TerminalRow). row.port_guid) rows)) (by_ports n many)

-- all lines of a source
module _ (t : Topology) (kept : IsFabric t) (s : ℕ) (row : SwitchRow) (there : slice_get t.switches s ≡ Some row) where
  pub source_done : (before start now : List ℕ) (n : ℕ) → n ≡ row.ports → start ≡ before ++ lines_text (port_guid_line row.guid ∷ [])
      → now ≡ start ++ lines_text (flat_map (λ (port : ℕ). map port_guid_line (guids_at t s port)) (range_with_len 1 n)) → now ≡ before ++ lines_text (map port_guid_line (source_guids t s))
  source_done before start now n many first rest =
      let ports : ports_of t s ≡ n = ap (λ (o : Option SwitchRow). unwrap_or (option_map (λ (r : SwitchRow). r.ports) o) 0) there ∙ sym many in
      let guid : guid_of t s ≡ row.guid = ap (λ (o : Option SwitchRow). unwrap_or (option_map (λ (r : SwitchRow). r.guid) o) 0) there in
      lines_added (port_guid_line row.guid ∷ []) (flat_map (λ (port : ℕ). map port_guid_line (guids_at t s port)) (range_with_len 1 n)) (map port_guid_line (source_guids t s)) before start now first rest
      (ap (λ (n : ℕ). port_guid_line n ∷ map port_guid_line (terminal_guids t s)) guid
      ∙ ap (λ (lines : List (List ℕ)). port_guid_line row.guid ∷ lines) (sym (guids_by_ports t kept s port_guid_line n ports)))
