-- Places of LIDs: whether a switch reaches one, and its port GUID.
use Rattle.std.proofs.Common.{◌≡◌, ℕ, ◌↔◌, ◌⊎◌, inl, inr, Bool, true, false, get_or, [], refl, sym, ◌∙◌, ap, subst, arith, Option, Some, None, slice_get, option_map, position, find}
use Rattle.std.specs.Prelude.{IsTrue, ◌==◌, is_some, unwrap_or}
use Rattle.std.specs.Option.{option_or}
use Rattle.std.specs.List.{list_any}
use Rattle.std.proofs.lemmas.Bool.{eqb-true, eq-eqb, and_parts, and_from}
use Rattle.std.proofs.lemmas.Bool.Decides.{same_from_decides}
use Rattle.std.proofs.lemmas.List.Quantifiers.{position-Some}
use Rattle.std.proofs.lemmas.Option.{none-some, same_Some, slice_get-get_or, get_or_from_slice_get}
use Rattle.fab_model.specs.declared.rows.SwitchRow.{SwitchRow}
use Rattle.fab_model.specs.declared.rows.TerminalId.{TerminalId}
use Rattle.fab_model.specs.declared.rows.TerminalRow.{TerminalRow}
use Rattle.fab_model.specs.declared.rows.Place.{Place}
use Rattle.fab_model.specs.Topology.{Topology, switch_id, terminal_id, place_of, terminal_at, is_cabled_at, ports_of}
use Rattle.fab_model.specs.WellFormed.{IsFabric, IsPort, UseOtherPorts}
use Rattle.fab_model.specs.Connected.{AreConnected, IsConnectedTo}
use Rattle.fab_model.proofs.Faultless.Facts.{slice_get_in}
use Rattle.fab_model.proofs.Lids.{is_some_position}
use Rattle.fab_model.proofs.Lists.Found.{from_find, find_none}
use Rattle.fab_model.proofs.Lists.Members.{In, in_all, cases_pairs, pairs_from_AllPairs, list_any_from_in, list_any_false}
use Rattle.fab_tables.specs.Certified.{Reaches}
use Rattle.fab_tables.specs.Entries.{Entries}
use Rattle.fab_export.specs.PortGuids.{port_guid, terminal_guid}
use Rattle.fab_export.specs.Reached.{is_reached}
use Rattle.fab_export.proofs.Reaching.{reached_is_connected}
use Rattle.fab_export.proofs.SourceGuids.{guid_of_switch, guid_of_terminal}

-- ---- what a switch reaches

module _ (t : Topology) (e : Entries) (s lid : ℕ) (reaches : Reaches t e) where
  pub reached_at : (place : Place) (joined : Bool) → place_of t lid ≡ Some place → IsTrue joined ↔ AreConnected t s place.switch.0 → joined ≡ is_reached t e s lid
  reached_at place joined at is =
      same_from_decides joined (is_reached t e s lid) is
      (λ r. there (law.0 r), λ connected. law.1 (place, at, connected))
    where
      law : IsTrue (is_reached t e s lid) ↔ IsConnectedTo t s lid
      law = reached_is_connected t e s lid reaches

      there : IsConnectedTo t s lid → AreConnected t s place.switch.0
      there connected = subst (λ (p : Place). AreConnected t s p.switch.0) (same_Some connected.0 place (sym connected.1 ∙ at)) connected.2

  -- a LID without a place is reached from nowhere
  pub reached_nowhere : place_of t lid ≡ None → false ≡ is_reached t e s lid
  reached_nowhere none = go (is_reached t e s lid) refl
    where
      go : (b : Bool) → is_reached t e s lid ≡ b → false ≡ b
      go false is = refl
      go true is = let connected : IsConnectedTo t s lid = (reached_is_connected t e s lid reaches).0 is in absurd (none-some connected.0 (sym none ∙ connected.1))

-- ---- the LID's owner

pub numbered : (o : Option ℕ) (terminal : TerminalId) → option_map terminal_id o ≡ Some terminal → o ≡ Some terminal.0
numbered None terminal e = absurd (none-some terminal e)
numbered (Some n) terminal e = ap (λ (id : TerminalId). Some id.0) (same_Some (terminal_id n) terminal e)

-- a place is that of a switch's own LID or of a terminal's
pub record OfSwitch (t : Topology) (lid : ℕ) (place : Place) : Type 0 where
  pub row : SwitchRow
  pub there : slice_get t.switches place.switch.0 ≡ Some row
  pub has : row.lid.0 ≡ lid
  pub own : place.port ≡ 0

pub record OfTerminal (t : Topology) (lid : ℕ) (place : Place) : Type 0 where
  pub row : TerminalRow
  pub there : In row t.terminals
  pub has : row.lid.0 ≡ lid
  pub cabled : is_cabled_at place.switch.0 place.port row ≡ true

owner : (t : Topology) (lid : ℕ) (place : Place) → place_of t lid ≡ Some place → OfSwitch t lid place ⊎ OfTerminal t lid place
owner t lid place at = by_kind (position (λ row. row.lid.0 == lid) t.switches) (find (λ row. row.lid.0 == lid) t.terminals) refl refl at
  where
    some : SwitchRow
    some = record { guid = 0; lid = record { 0 = 0 }; ports = 0; desc = [] }

    by_kind : (o : Option ℕ) (p : Option TerminalRow) → position (λ row. row.lid.0 == lid) t.switches ≡ o → find (λ row. row.lid.0 == lid) t.terminals ≡ p →
        option_or (option_map (λ number. record { switch = switch_id number; port = 0 }) o) (option_map (λ row. record { switch = row.switch; port = row.port }) p) ≡ Some place →
        OfSwitch t lid place ⊎ OfTerminal t lid place
    by_kind (Some n) p is other e =
        let found = position-Some (λ row. row.lid.0 == lid) t.switches n some is in
        let same : record { switch = switch_id n; port = 0 } ≡ place = same_Some _ place e in
        inl (subst (λ (q : Place). OfSwitch t lid q) same (record { row = get_or t.switches n some; there = slice_get-get_or t.switches n some found.0; has = eqb-true _ lid found.1; own = refl }))
    by_kind None (Some row) is other e =
        let found = from_find (λ (r : TerminalRow). r.lid.0 == lid) t.terminals row other in
        let same : record { switch = row.switch; port = row.port } ≡ place = same_Some _ place e in
        inr (subst (λ (q : Place). OfTerminal t lid q) same (record { row = row; there = found.0; has = eqb-true row.lid.0 lid found.1; cabled = and_from (row.switch.0 == row.switch.0) (row.port == row.port) (eq-eqb row.switch.0 row.switch.0 refl) (eq-eqb row.port row.port refl) }))
    by_kind None None is other e = absurd (none-some place e)

module _ (t : Topology) (kept : IsFabric t) (lid : ℕ) (place : Place) (at : place_of t lid ≡ Some place) where
  -- a terminal is cabled to the place's port
  pub guid_of_cabled : (i : ℕ) (row : TerminalRow) → terminal_at t place.switch.0 place.port ≡ Some i → slice_get t.terminals i ≡ Some row → row.port_guid ≡ port_guid t lid
  guid_of_cabled i row is has = elim (owner t lid place at) [
    | inl own ↦ absurd (let port : IsPort (ports_of t row.switch.0) row.port = in_all (λ (r : TerminalRow). IsPort (ports_of t r.switch.0) r.port) t.terminals kept.rows.terminal_ports row within in omega (arith, port.0, same.1, own.own))
    | inr other ↦
        let there = and_parts (other.row.switch.0 == place.switch.0) (other.row.port == place.port) other.cabled in
        let one : other.row ≡ row = elim (cases_pairs UseOtherPorts t.terminals (pairs_from_AllPairs UseOtherPorts t.terminals kept.rows.switch_ports_differ) other.row row other.there within) [
          | inl e ↦ e
          | inr (inl apart) ↦ absurd (apart (eqb-true _ _ there.0 ∙ sym same.0) (eqb-true _ _ there.1 ∙ sym same.1))
          | inr (inr apart) ↦ absurd (apart (same.0 ∙ sym (eqb-true _ _ there.0)) (same.1 ∙ sym (eqb-true _ _ there.1)))
        ] in
        ap (λ (r : TerminalRow). r.port_guid) (sym one) ∙ sym (guid_of_terminal t kept other.row other.there) ∙ ap (port_guid t) other.has
  ]
    where
      within : In row t.terminals
      within = slice_get_in t.terminals i row has

      same : (row.switch.0 ≡ place.switch.0) × (row.port ≡ place.port)
      same =
          let found = position-Some (is_cabled_at place.switch.0 place.port) t.terminals i row is in
          let both = and_parts (row.switch.0 == place.switch.0) (row.port == place.port) (subst (λ (r : TerminalRow). is_cabled_at place.switch.0 place.port r ≡ true) (get_or_from_slice_get t.terminals i row row has) found.1) in
          (eqb-true _ _ both.0, eqb-true _ _ both.1)

  -- no terminal is cabled there
  pub guid_of_own : (row : SwitchRow) → terminal_at t place.switch.0 place.port ≡ None → slice_get t.switches place.switch.0 ≡ Some row → row.guid ≡ port_guid t lid
  guid_of_own row none has = elim (owner t lid place at) [
    | inl own ↦
        let one : own.row ≡ row = same_Some own.row row (sym own.there ∙ has) in
        ap (λ (r : SwitchRow). r.guid) (sym one) ∙ sym (guid_of_switch t kept own.row (slice_get_in t.switches place.switch.0 own.row own.there)) ∙ ap (port_guid t) own.has
    | inr other ↦
        let found : list_any (is_cabled_at place.switch.0 place.port) t.terminals ≡ true = list_any_from_in (is_cabled_at place.switch.0 place.port) t.terminals other.row other.there other.cabled in
        let not : list_any (is_cabled_at place.switch.0 place.port) t.terminals ≡ false = sym (is_some_position (is_cabled_at place.switch.0 place.port) t.terminals) ∙ ap is_some none in
        absurd (cc)
  ]

-- a LID without a place has no port GUID
pub no_guid : (t : Topology) (lid : ℕ) → place_of t lid ≡ None → 0 ≡ port_guid t lid
no_guid t lid none = by_kind (position (λ row. row.lid.0 == lid) t.switches) (find (λ row. row.lid.0 == lid) t.terminals) refl refl none
  where
    by_kind : (o : Option ℕ) (p : Option TerminalRow) → position (λ row. row.lid.0 == lid) t.switches ≡ o → find (λ row. row.lid.0 == lid) t.terminals ≡ p →
        option_or {T = Place} (option_map (λ number. record { switch = switch_id number; port = 0 }) o) (option_map (λ row. record { switch = row.switch; port = row.port }) p) ≡ None →
        0 ≡ port_guid t lid
    by_kind (Some n) p is other e = absurd (none-some _ (sym e))
    by_kind None (Some row) is other e = absurd (none-some _ (sym e))
    by_kind None None is other e =
        let missing : list_any (λ (row : SwitchRow). row.lid.0 == lid) t.switches ≡ false = sym (is_some_position (λ (row : SwitchRow). row.lid.0 == lid) t.switches) ∙ ap is_some is in
        let no_switch : find (λ (row : SwitchRow). row.lid.0 == lid) t.switches ≡ None = find_none (λ (row : SwitchRow). row.lid.0 == lid) t.switches (list_any_false (λ (row : SwitchRow). row.lid.0 == lid) t.switches missing) in
        let none_known : port_guid t lid ≡ 0 =
        ap (λ (o : Option SwitchRow). unwrap_or (option_or {T = ℕ} (option_map (λ (r : SwitchRow). r.guid) o) (terminal_guid t lid)) 0) no_switch ∙ ap (λ (o : Option TerminalRow). unwrap_or (option_map (λ (r : TerminalRow). r.port_guid) o) 0) other in
        sym none_known
