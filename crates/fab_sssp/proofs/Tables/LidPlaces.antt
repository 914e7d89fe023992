-- Each LID in use has a place.
use Rattle.std.proofs.Common.{◌≡◌, ℕ, ◌⊎◌, inl, inr, Bool, true, false, List, [], ◌∷◌, ◌++◌, map, cond, Option, Some, None, option_map, position, find, refl, sym, ◌∙◌, ap, Contains}
use Rattle.std.specs.Prelude.{nat_lt, is_some, IsSome, ◌==◌}
use Rattle.std.specs.Option.{option_or}
use Rattle.std.proofs.lemmas.Bool.{eq-eqb, false≢true}
use Rattle.fab_model.specs.declared.rows.SwitchRow.{SwitchRow}
use Rattle.fab_model.specs.declared.rows.TerminalRow.{TerminalRow}
use Rattle.fab_model.specs.declared.rows.Place.{Place}
use Rattle.fab_model.specs.Topology.{Topology, switch_id, place_of, lids_of}
use Rattle.fab_model.proofs.Lids.{is_some_position}
use Rattle.fab_model.proofs.Lists.InOrder.{from_in_order}
use Rattle.fab_model.proofs.Lists.Members.{In, in_from_Contains, from_append, from_map, list_any_from_in}

-- what passes is found
found_any : {X : Type 0} (p : X → Bool) (xs : List X) (x : X) → In x xs → p x ≡ true → is_some (find p xs) ≡ true
found_any p [] x at passes = absurd at
found_any {X} p (y ∷ ys) x at passes = go (λ later. found_any p ys x later passes) (p y) refl at
  where
    go : (In x ys → is_some (find p ys) ≡ true) → (b : Bool) → p y ≡ b → (y ≡ x) ⊎ In x ys → is_some (cond b (Some y) (find p ys)) ≡ true
    go rest true is at = refl
    go rest false is (inl same) = absurd (false≢true (sym is ∙ ap p same ∙ passes))
    go rest false is (inr later) = rest later

pub has_place : (t : Topology) (lid : ℕ) → Contains (lids_of t) lid → IsSome (place_of t lid)
has_place t lid has = by_kind (from_append of_switches of_terminals lid (from_in_order nat_lt (of_switches ++ of_terminals) lid (in_from_Contains (lids_of t) lid has)))
  where
    of_switches : List ℕ
    of_switches = map (λ (row : SwitchRow). row.lid.0) t.switches

    of_terminals : List ℕ
    of_terminals = map (λ (row : TerminalRow). row.lid.0) t.terminals

    of_switch : (o : Option ℕ) (q : Option Place) → is_some o ≡ true → IsSome (option_or (option_map (λ number. record { switch = switch_id number; port = 0 }) o) q)
    of_switch None q is = absurd (false≢true is)
    of_switch (Some n) q is = refl

    of_terminal : (q : Option Place) (o : Option TerminalRow) → is_some o ≡ true → IsSome (option_or q (option_map (λ (row : TerminalRow). record { switch = row.switch; port = row.port }) o))
    of_terminal (Some place) o is = refl
    of_terminal None None is = absurd (false≢true is)
    of_terminal None (Some row) is = refl

    by_kind : In lid of_switches ⊎ In lid of_terminals → IsSome (place_of t lid)
    by_kind (inl has) =
        let found : (row : SwitchRow) × In row t.switches × (row.lid.0 ≡ lid) = from_map (λ (row : SwitchRow). row.lid.0) t.switches lid has in
        of_switch (position (λ (row : SwitchRow). row.lid.0 == lid) t.switches) _
        (is_some_position (λ (row : SwitchRow). row.lid.0 == lid) t.switches ∙ list_any_from_in (λ (row : SwitchRow). row.lid.0 == lid) t.switches found.0 found.1 (eq-eqb found.0.lid.0 lid found.2))
    by_kind (inr has) =
        let found : (row : TerminalRow) × In row t.terminals × (row.lid.0 ≡ lid) = from_map (λ (row : TerminalRow). row.lid.0) t.terminals lid has in
        of_terminal _ (find (λ (row : TerminalRow). row.lid.0 == lid) t.terminals) (found_any (λ (row : TerminalRow). row.lid.0 == lid) t.terminals found.0 found.1 (eq-eqb found.0.lid.0 lid found.2))
