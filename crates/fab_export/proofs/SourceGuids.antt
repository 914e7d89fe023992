-- The port GUIDs of sources are those of LIDs, each of one switch.
use Rattle.std.proofs.Common.{◌≡◌, ◌≢◌, ℕ, ◌<◌, ◌⊎◌, inl, inr, Bool, true, false, List, [], ◌∷◌, ◌++◌, length, refl, sym, ◌∙◌, ap, subst, arith, Option, Some, map, slice_get}
use Rattle.std.specs.Prelude.{All, filter, option_map, unwrap_or, ◌==◌, nat_lt, if◌then◌else◌}
use Rattle.std.specs.Option.{option_or}
use Rattle.std.proofs.lemmas.Bool.{eqb-true, eq-eqb, ne_eqb}
use Rattle.fab_model.specs.declared.rows.SwitchRow.{SwitchRow}
use Rattle.fab_model.specs.declared.rows.TerminalRow.{TerminalRow}
use Rattle.fab_model.specs.InOrder.{in_order, insert_in_order}
use Rattle.fab_model.specs.Topology.{Topology, lids_of}
use Rattle.fab_model.specs.WellFormed.{IsFabric, IsWellFormed}
use Rattle.fab_model.proofs.Faultless.Facts.{slice_get_in, same_place}
use Rattle.fab_model.proofs.Lists.Members.{In, Pairs, in_all, from_map, from_filter, in_map, pairs_from_AllPairs, cases_pairs, in_left, in_right}
use Rattle.fab_model.proofs.Lists.Found.{find_only, find_none, slice_get_some}
use Rattle.fab_export.specs.PortGuids.{terminal_guid, port_guid, by_port, terminals_at, source_guids}

-- what stands in a list in order stands in the list
from_insert : {X : Type 0} (before : X → X → Bool) (x y : X) (xs : List X) → In y (insert_in_order before x xs) → (x ≡ y) ⊎ In y xs
from_insert before x y [] (inl same) = inl same
from_insert before x y [] (inr w) = absurd w
from_insert {X} before x y (z ∷ zs) within = go (before z x) within (from_insert before x y zs)
  where
    go : (b : Bool) → In y (if b then z ∷ insert_in_order before x zs else x ∷ z ∷ zs) → (In y (insert_in_order before x zs) → (x ≡ y) ⊎ In y zs) → (x ≡ y) ⊎ In y (z ∷ zs)
    go true (inl same) rest = inr (inl same)
    go true (inr w) rest = elim (rest w) [ inl same ↦ inl same | inr there ↦ inr (inr there) ]
    go false (inl same) rest = inl same
    go false (inr w) rest = inr w

from_order : {X : Type 0} (before : X → X → Bool) (xs : List X) (y : X) → In y (in_order before xs) → In y xs
from_order before [] y within = absurd within
from_order before (x ∷ xs) y within = elim (from_insert before x y (in_order before xs) within) [ inl same ↦ inl same | inr there ↦ inr (from_order before xs y there) ]

in_insert : {X : Type 0} (before : X → X → Bool) (x y : X) (xs : List X) → (x ≡ y) ⊎ In y xs → In y (insert_in_order before x xs)
in_insert before x y [] (inl same) = inl same
in_insert before x y [] (inr w) = absurd w
in_insert {X} before x y (z ∷ zs) within = go (before z x) within (in_insert before x y zs)
  where
    go : (b : Bool) → (x ≡ y) ⊎ In y (z ∷ zs) → ((x ≡ y) ⊎ In y zs → In y (insert_in_order before x zs)) → In y (if b then z ∷ insert_in_order before x zs else x ∷ z ∷ zs)
    go true (inl same) rest = inr (rest (inl same))
    go true (inr (inl same)) rest = inl same
    go true (inr (inr w)) rest = inr (rest (inr w))
    go false (inl same) rest = inl same
    go false (inr w) rest = inr w

pub in_order_there : {X : Type 0} (before : X → X → Bool) (xs : List X) (y : X) → In y xs → In y (in_order before xs)
in_order_there before [] y within = absurd within
in_order_there before (x ∷ xs) y (inl same) = in_insert before x y (in_order before xs) (inl same)
in_order_there before (x ∷ xs) y (inr within) = in_insert before x y (in_order before xs) (inr (in_order_there before xs y within))

-- the LID is one of a switch, or of a terminal there
abbrev pub IsLidAt : Topology → ℕ → ℕ → Type 0
IsLidAt t lid s = ((row : SwitchRow) × (slice_get t.switches s ≡ Some row) × (row.lid.0 ≡ lid)) ⊎ ((row : TerminalRow) × In row t.terminals × (row.lid.0 ≡ lid) × (row.switch.0 ≡ s))

pub lid_at_in_use : (t : Topology) (lid s : ℕ) → IsLidAt t lid s → In lid (lids_of t)
lid_at_in_use t lid s (inl x) =
    in_order_there nat_lt (map (λ (row : SwitchRow). row.lid.0) t.switches ++ map (λ (row : TerminalRow). row.lid.0) t.terminals) lid
    (in_left (map (λ (row : SwitchRow). row.lid.0) t.switches) (map (λ (row : TerminalRow). row.lid.0) t.terminals) lid
    (subst (λ n. In n (map (λ (row : SwitchRow). row.lid.0) t.switches)) x.2 (in_map (λ (row : SwitchRow). row.lid.0) t.switches x.0 (slice_get_in t.switches s x.0 x.1))))
lid_at_in_use t lid s (inr x) =
    in_order_there nat_lt (map (λ (row : SwitchRow). row.lid.0) t.switches ++ map (λ (row : TerminalRow). row.lid.0) t.terminals) lid
    (in_right (map (λ (row : SwitchRow). row.lid.0) t.switches) (map (λ (row : TerminalRow). row.lid.0) t.terminals) lid
    (subst (λ n. In n (map (λ (row : TerminalRow). row.lid.0) t.terminals)) x.2 (in_map (λ (row : TerminalRow). row.lid.0) t.terminals x.0 x.1)))

module _ (t : Topology) (kept : IsFabric t) where
  good : IsWellFormed t
  good = kept.rows

  switches_apart : Pairs (λ (a b : SwitchRow). a.lid.0 ≢ b.lid.0) t.switches
  switches_apart = pairs_from_AllPairs (λ (a b : SwitchRow). a.lid.0 ≢ b.lid.0) t.switches kept.rows.switch_lids_differ

  terminals_rise : Pairs (λ (a b : TerminalRow). a.lid.0 < b.lid.0) t.terminals
  terminals_rise = pairs_from_AllPairs (λ (a b : TerminalRow). a.lid.0 < b.lid.0) t.terminals kept.rows.terminal_lids_rise

  kinds_apart : (a : SwitchRow) (b : TerminalRow) → In a t.switches → In b t.terminals → a.lid.0 ≢ b.lid.0
  kinds_apart a b in_a in_b =
      in_all (λ (y : TerminalRow). a.lid.0 ≢ y.lid.0) t.terminals (in_all (λ (x : SwitchRow). All (λ (y : TerminalRow). x.lid.0 ≢ y.lid.0) t.terminals) t.switches kept.rows.other_lids a in_a) b in_b

  same_switch : (a b : SwitchRow) → In a t.switches → In b t.switches → a.lid.0 ≡ b.lid.0 → a ≡ b
  same_switch a b in_a in_b same = elim (cases_pairs (λ (x y : SwitchRow). x.lid.0 ≢ y.lid.0) t.switches switches_apart a b in_a in_b) [
    | inl e ↦ e
    | inr (inl less) ↦ absurd (less same)
    | inr (inr more) ↦ absurd (more (sym same))
  ]

  same_terminal : (a b : TerminalRow) → In a t.terminals → In b t.terminals → a.lid.0 ≡ b.lid.0 → a ≡ b
  same_terminal a b in_a in_b same = elim (cases_pairs (λ (x y : TerminalRow). x.lid.0 < y.lid.0) t.terminals terminals_rise a b in_a in_b) [
    | inl e ↦ e
    | inr (inl less) ↦ absurd (omega (arith, less, same))
    | inr (inr more) ↦ absurd (omega (arith, more, same))
  ]

  -- a LID is of one switch
  pub one_switch : (lid a b : ℕ) → IsLidAt t lid a → IsLidAt t lid b → a ≡ b
  one_switch lid a b (inl x) (inl y) = same_place (λ (row : SwitchRow). row.lid.0) t.switches a b x.0 y.0 switches_apart x.1 y.1 (x.2 ∙ sym y.2)
  one_switch lid a b (inl x) (inr y) = absurd (kinds_apart x.0 y.0 (slice_get_in t.switches a x.0 x.1) y.1 (x.2 ∙ sym y.2))
  one_switch lid a b (inr x) (inl y) = absurd (kinds_apart y.0 x.0 (slice_get_in t.switches b y.0 y.1) x.1 (y.2 ∙ sym x.2))
  one_switch lid a b (inr x) (inr y) = sym x.3 ∙ ap (λ (row : TerminalRow). row.switch.0) (same_terminal x.0 y.0 x.1 y.1 (x.2 ∙ sym y.2)) ∙ y.3

  -- the port GUID of a switch's and of a terminal's LID
  pub guid_of_switch : (row : SwitchRow) → In row t.switches → port_guid t row.lid.0 ≡ row.guid
  guid_of_switch row within =
      ap (λ (o : Option SwitchRow). unwrap_or (option_or (option_map (λ r. r.guid) o) (terminal_guid t row.lid.0)) 0)
      (find_only (λ (r : SwitchRow). r.lid.0 == row.lid.0) t.switches row within (eq-eqb row.lid.0 row.lid.0 refl) (λ y in_y is. same_switch y row in_y within (eqb-true y.lid.0 row.lid.0 is)))

  pub guid_of_terminal : (row : TerminalRow) → In row t.terminals → port_guid t row.lid.0 ≡ row.port_guid
  guid_of_terminal row within =
      ap (λ (o : Option SwitchRow). unwrap_or (option_or (option_map (λ r. r.guid) o) (terminal_guid t row.lid.0)) 0)
      (find_none (λ (r : SwitchRow). r.lid.0 == row.lid.0) t.switches (λ y in_y. ne_eqb y.lid.0 row.lid.0 (kinds_apart y row in_y within)))
      ∙ ap (λ (o : Option TerminalRow). unwrap_or (option_map (λ r. r.port_guid) o) 0)
      (find_only (λ (r : TerminalRow). r.lid.0 == row.lid.0) t.terminals row within (eq-eqb row.lid.0 row.lid.0 refl) (λ y in_y is. same_terminal y row in_y within (eqb-true y.lid.0 row.lid.0 is)))

  -- each GUID of a source is that of a LID there
  pub lid_of_guid : (s guid : ℕ) → s < length t.switches → In guid (source_guids t s) → (lid : ℕ) × IsLidAt t lid s × (port_guid t lid ≡ guid)
  lid_of_guid s guid low (inl same) =
      let there : (row : SwitchRow) × (slice_get t.switches s ≡ Some row) = slice_get_some t.switches s low in (
        there.0.lid.0,
        inl (there.0, there.1, refl),
        guid_of_switch there.0 (slice_get_in t.switches s there.0 there.1) ∙ sym (ap (λ (o : Option SwitchRow). unwrap_or (option_map (λ r. r.guid) o) 0) there.1) ∙ same,
      )
  lid_of_guid s guid low (inr within) =
      let from = from_map (λ (r : TerminalRow). r.port_guid) (terminals_at t s) guid within in
      let row = from_filter (λ (r : TerminalRow). r.switch.0 == s) t.terminals from.0 (from_order by_port (filter (λ (r : TerminalRow). r.switch.0 == s) t.terminals) from.0 from.1) in
      (from.0.lid.0, inr (from.0, row.0, refl, eqb-true from.0.switch.0 s row.1), guid_of_terminal from.0 row.0 ∙ from.2)
