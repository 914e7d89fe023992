-- The places of terminals' LIDs: no terminal is at port 0, so a LID is a terminal's exactly where its port isn't 0.
use Rattle.std.proofs.Common.{◌≡◌, ◌≢◌, ℕ, ◌<◌, inl, inr, List, Option, Some, None, refl, sym, ◌∙◌, ap, subst, arith, Contains, true, position, find, option_map, map, ◌++◌, ◌⊎◌}
use Rattle.std.specs.Prelude.{slice_index_or, nat_lt, is_some, IsSome, ◌==◌}
use Rattle.std.specs.Option.{option_or}
use Rattle.std.proofs.lemmas.Bool.{eqb-true, eq-eqb, ne_eqb, cases_order}
use Rattle.std.proofs.lemmas.List.{get_or_default}
use Rattle.std.proofs.lemmas.List.Elements.{All-contains}
use Rattle.std.proofs.lemmas.Option.{same_Some, none-some}
use Rattle.fab_model.specs.declared.rows.SwitchRow.{SwitchRow}
use Rattle.fab_model.specs.declared.rows.TerminalRow.{TerminalRow}
use Rattle.fab_model.specs.declared.rows.Place.{Place}
use Rattle.fab_model.specs.Topology.{Topology, switch_id, place_of, lids_of}
use Rattle.fab_model.specs.WellFormed.{IsWellFormed}
use Rattle.fab_model.proofs.Finds.{position_none}
use Rattle.fab_model.proofs.Lists.Found.{find_only, from_find}
use Rattle.fab_model.proofs.Lids.{is_some_position}
use Rattle.fab_model.proofs.Lists.InOrder.{from_in_order}
use Rattle.fab_model.proofs.Lists.Members.{In, in_from_Contains, Contains_from_in, from_append, from_map, list_any_from_in}
use Rattle.fab_tables.proofs.Joined.Lids.{lid_in_use}

-- a LID whose port isn't 0 is a terminal's
pub record IsOfTerminal (t : Topology) (lid : ℕ) : Type 0 where
  pub row : TerminalRow
  pub listed : Contains t.terminals row
  pub has_lid : row.lid.0 ≡ lid

pub terminal_there : (t : Topology) (lid : ℕ) (place : Place) → place_of t lid ≡ Some place → 0 < place.port → IsOfTerminal t lid
terminal_there t lid place e some = go (position (λ (row : SwitchRow). row.lid.0 == lid) t.switches) (find (λ (row : TerminalRow). row.lid.0 == lid) t.terminals) refl e
  where
    go : (o : Option ℕ) (p : Option TerminalRow) → find (λ (row : TerminalRow). row.lid.0 == lid) t.terminals ≡ p →
        option_or (option_map (λ number. record { switch = switch_id number; port = 0 }) o) (option_map (λ (row : TerminalRow). record { switch = row.switch; port = row.port }) p) ≡ Some place → IsOfTerminal t lid
    go (Some n) p found is = absurd (omega (arith, some, ap (λ (q : Place). q.port) (same_Some _ place is)))
    go None (Some row) found is =
        let at : In row t.terminals × ((row.lid.0 == lid) ≡ true) = from_find (λ (r : TerminalRow). r.lid.0 == lid) t.terminals row found in
        record { row = row; listed = Contains_from_in t.terminals row at.0; has_lid = eqb-true row.lid.0 lid at.1 }
    go None None found is = absurd (none-some place is)

module _ (t : Topology) (good : IsWellFormed t) (row : TerminalRow) (listed : Contains t.terminals row) where
  no_switch : position (λ (s : SwitchRow). s.lid.0 == row.lid.0) t.switches ≡ None
  no_switch = position_none (λ (s : SwitchRow). s.lid.0 == row.lid.0) t.switches
      (λ k d low. ne_eqb _ row.lid.0 (All-contains (λ (r : TerminalRow). (slice_index_or t.switches k d).lid.0 ≢ r.lid.0) t.terminals row (good.other_lids k d low) listed))

  -- two terminals with one LID are one
  one_terminal : (other : TerminalRow) → Contains t.terminals other → other.lid.0 ≡ row.lid.0 → other ≡ row
  one_terminal other has same = elim (cases_order has.0 listed.0) [
    | inl e ↦ (sym has.2 ∙ ap (λ k. slice_index_or t.terminals k other) e ∙ as_row)
    | inr (inl less) ↦ absurd (omega (arith, same, good.terminal_lids_rise has.0 listed.0 other less listed.1, ap (λ (r : TerminalRow). r.lid.0) has.2, ap (λ (r : TerminalRow). r.lid.0) as_row))
    | inr (inr more) ↦ absurd (omega (arith, same, good.terminal_lids_rise listed.0 has.0 other more has.1, ap (λ (r : TerminalRow). r.lid.0) has.2, ap (λ (r : TerminalRow). r.lid.0) as_row))
  ]
    where
      as_row : slice_index_or t.terminals listed.0 other ≡ row
      as_row = get_or_default t.terminals listed.0 other row listed.1 ∙ listed.2

  pub place_there : place_of t row.lid.0 ≡ Some (record { switch = row.switch; port = row.port })
  place_there =
      ap (λ o. option_or (option_map (λ number. record { switch = switch_id number; port = 0 }) o) (option_map (λ (r : TerminalRow). record { switch = r.switch; port = r.port }) (find (λ (r : TerminalRow). r.lid.0 == row.lid.0) t.terminals))) no_switch
      ∙ ap (λ (o : Option TerminalRow). option_map (λ (r : TerminalRow). record { switch = r.switch; port = r.port }) o)
      (find_only (λ (r : TerminalRow). r.lid.0 == row.lid.0) t.terminals row (in_from_Contains t.terminals row listed) (eq-eqb row.lid.0 row.lid.0 refl)
      (λ other has same. one_terminal other (Contains_from_in t.terminals other has) (eqb-true other.lid.0 row.lid.0 same)))

  pub terminal_in_use : Contains (lids_of t) row.lid.0
  terminal_in_use = lid_in_use t row.lid.0 (record { switch = row.switch; port = row.port }) place_there

  pub some_port : (place : Place) → place_of t row.lid.0 ≡ Some place → 0 < place.port
  some_port place at = omega (
    arith,
    ap (λ (p : Place). p.port) (same_Some (record { switch = row.switch; port = row.port }) place (sym place_there ∙ at)),
    All-contains (λ (r : TerminalRow). 0 < r.port) t.terminals row (λ k d low. (good.terminal_ports k d low).0) listed,
  )

-- each LID in use has a place
pub has_place : (t : Topology) → IsWellFormed t → (lid : ℕ) → Contains (lids_of t) lid → IsSome (place_of t lid)
has_place t good lid has = by_kind (from_append of_switches of_terminals lid (from_in_order nat_lt (of_switches ++ of_terminals) lid (in_from_Contains (lids_of t) lid has)))
  where
    of_switches : List ℕ
    of_switches = map (λ (row : SwitchRow). row.lid.0) t.switches

    of_terminals : List ℕ
    of_terminals = map (λ (row : TerminalRow). row.lid.0) t.terminals

    of_switch : (o : Option ℕ) (q : Option Place) → is_some o ≡ true → IsSome (option_or (option_map (λ number. record { switch = switch_id number; port = 0 }) o) q)
    of_switch None q is = cc
    of_switch (Some n) q is = refl

    by_kind : In lid of_switches ⊎ In lid of_terminals → IsSome (place_of t lid)
    by_kind (inl has) =
        let found : (row : SwitchRow) × In row t.switches × (row.lid.0 ≡ lid) = from_map (λ (row : SwitchRow). row.lid.0) t.switches lid has in
        of_switch (position (λ (row : SwitchRow). row.lid.0 == lid) t.switches) _
        (is_some_position (λ (row : SwitchRow). row.lid.0 == lid) t.switches ∙ list_any_from_in (λ (row : SwitchRow). row.lid.0 == lid) t.switches found.0 found.1 (eq-eqb found.0.lid.0 lid found.2))
    by_kind (inr has) =
        let found : (row : TerminalRow) × In row t.terminals × (row.lid.0 ≡ lid) = from_map (λ (row : TerminalRow). row.lid.0) t.terminals lid has in
        subst (λ n. IsSome (place_of t n)) found.2 (rw (place_there t good found.0 (Contains_from_in t.terminals found.0 found.1)) refl)
