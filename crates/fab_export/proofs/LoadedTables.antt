-- The text of the tables is loaded whole.
use Rattle.std.proofs.Common.{◌≡◌, ℕ, zero, suc, ◌<◌, ◌≤◌, inl, inr, Bool, true, false, ◌&&◌, List, [], ◌∷◌, length, refl, sym, ◌∙◌, ap, subst, arith, Option, Some, None, codes, map, slice_get}
use Rattle.std.specs.Prelude.{All, filter, find, position, flat_map, nat_lt, option_map, ◌==◌, if◌then◌else◌}
use Rattle.std.specs.List.{enumerate_from}
use Rattle.std.specs.List.Sorted.{IsStrictlyIncreasing}
use Rattle.std.specs.Option.{option_or}
use Rattle.std.proofs.lemmas.Bool.{cases_order, eq-eqb, lt-ltb, both_ways}
use Rattle.std.proofs.lemmas.List.Elements.{All-cons}
use Rattle.std.proofs.lemmas.List.Kept.{IsStrictlyIncreasing-filter}
use Rattle.std.proofs.lemmas.Option.{same_Some, none-some}
use Rattle.fab_model.specs.declared.rows.Place.{Place}
use Rattle.fab_model.specs.declared.rows.SwitchRow.{SwitchRow}
use Rattle.fab_model.specs.declared.rows.ChannelRow.{ChannelRow}
use Rattle.fab_model.specs.declared.rows.TerminalRow.{TerminalRow}
use Rattle.std.specs.Bool.{then_some}
use Rattle.fab_model.specs.Description.{IsDescription}
use Rattle.fab_model.specs.Faults.{first_of, greatest_lid}
use Rattle.fab_model.specs.Topology.{Topology, lids_of, ports_of, place_of, switch_id, lid_id}
use Rattle.fab_model.specs.WellFormed.{IsFabric, IsWellFormed, IsPort}
use Rattle.fab_model.proofs.Faultless.Facts.{slice_get_in}
use Rattle.fab_model.proofs.Lists.Members.{In, All_from_in, in_all, in_map, from_map, from_filter, list_any_false, in_from_Contains}
use Rattle.fab_model.proofs.Lists.Found.{from_enumerate, from_find}
use Rattle.fab_tables.specs.declared.end.End.TheVariants.{Delivered}
use Rattle.fab_tables.specs.Entries.{Entries, entry}
use Rattle.fab_tables.specs.Route.{Hop, hop_by, after_hop, route_within}
use Rattle.fab_tables.specs.Route.Hop.{Along, Stop}
use Rattle.fab_tables.proofs.Joined.Ascending.{lids_ascend}
use Rattle.fab_tables.proofs.Paths.FallingRoutes.{channel_found}
use Rattle.fab_tables.proofs.Paths.RouteTurns.{along_channel}
use Rattle.fab_dump.specs.Writing.{hex4, hex16, port3, table_head_text}
use Rattle.fab_dump.proofs.Writing.LineLengths.{length-hex4, length-hex16, length-concat, table_head_length}
use Rattle.fab_dump.proofs.Round.WrittenNumbers.{length-port}
use Rattle.fab_dump.proofs.Round.Writes.{all_flat_map}
use Rattle.fab_export.specs.declared.fault.Unfit.TheVariants as unfit
use Rattle.fab_export.specs.PortGuids.{port_guid}
use Rattle.fab_export.specs.Reached.{is_reached}
use Rattle.fab_export.specs.TablesText.{TableRow, table_row, table_rows, table_row_text, exported_block, table_lines}
use Rattle.fab_export.specs.Unfits.{repeats_port_guid, port_guid_fault}
use Rattle.fab_export.specs.Laws.{AreRowsOf, TablesCanBeLoaded}
use Rattle.fab_export.proofs.NoRows.{no_first, rows_of_fit}
use Rattle.fab_export.proofs.Reaching.{delivered_is, stops_at_place}
use Rattle.fab_export.proofs.ListTests.{second_false, not_some}

-- ---- ports

place_fits : (t : Topology) → IsWellFormed t → (lid : ℕ) (place : Place) → place_of t lid ≡ Some place → place.port ≤ ports_of t place.switch.0
place_fits t good lid place e = by_kind (position (λ row. row.lid.0 == lid) t.switches) (find (λ row. row.lid.0 == lid) t.terminals) e
    (λ row is. (in_all (λ (r : TerminalRow). IsPort (ports_of t r.switch.0) r.port) t.terminals good.terminal_ports row (from_find (λ (r : TerminalRow). r.lid.0 == lid) t.terminals row is).0).1)
  where
    by_kind : (o : Option ℕ) (p : Option TerminalRow) →
        option_or (option_map (λ number. record { switch = switch_id number; port = 0 }) o) (option_map (λ row. record { switch = row.switch; port = row.port }) p) ≡ Some place →
        ((row : TerminalRow) → p ≡ Some row → row.port ≤ ports_of t row.switch.0) → place.port ≤ ports_of t place.switch.0
    by_kind (Some n) p is rows = let Q : Place → Type 0 = λ q. q.port ≤ ports_of t q.switch.0 in subst Q (same_Some _ place is) (omega arith)
    by_kind None (Some row) is rows = let Q : Place → Type 0 = λ q. q.port ≤ ports_of t q.switch.0 in subst Q (same_Some _ place is) (rows row refl)
    by_kind None None is rows = absurd (none-some place is)

-- a channel's port is one of its switch
channel_fits : (t : Topology) → IsWellFormed t → (row : ChannelRow) → In row t.channels → row.port ≤ ports_of t row.tail.0
channel_fits t good row within = (in_all (λ (r : ChannelRow). IsPort (ports_of t r.tail.0) r.port) t.channels good.channel_ports row within).1

along_fits : (t : Topology) → IsWellFormed t → (lid s port c : ℕ) → hop_by t lid s port ≡ Along c → port ≤ ports_of t s
along_fits t good lid s port c is =
    let found : (row : ChannelRow) × (c < length t.channels) × (slice_get t.channels c ≡ Some row) × (row.tail.0 ≡ s) × (row.port ≡ port) = channel_found t s port c (along_channel t lid s port c is) in
    let low : found.0.port ≤ ports_of t found.0.tail.0 = channel_fits t good found.0 (slice_get_in t.channels c found.0 found.2) in
    let same : ports_of t found.0.tail.0 ≡ ports_of t s = ap (ports_of t) found.3 in
    omega (arith, low, same, found.4)

-- the port of a delivered route's first entry is one of its switch
port_fits : (t : Topology) (e : Entries) → IsWellFormed t → (lid n s : ℕ) → (route_within t e lid n s).end ≡ Delivered → entry e s lid ≤ ports_of t s
port_fits t e good lid zero s is = absurd (cc)
port_fits t e good lid (suc n) s is = go (hop_by t lid s (entry e s lid)) refl is
  where
    go : (hop : Hop) → hop_by t lid s (entry e s lid) ≡ hop → (after_hop t (λ next. route_within t e lid n next) hop).end ≡ Delivered → entry e s lid ≤ ports_of t s
    go (Stop end) same x =
        let there : (place : Place) × (place_of t lid ≡ Some place) × (s ≡ place.switch.0) × (entry e s lid ≡ place.port) = stops_at_place t lid s (entry e s lid) (same ∙ ap Stop x) in
        omega (arith, there.3, place_fits t good lid there.0 there.1, ap (ports_of t) there.2)
    go (Along c) same x = along_fits t good lid s (entry e s lid) c same

-- ---- port GUIDs

nothing_first : {X : Type 0} (xs : List (Option X)) → None ≡ first_of xs → (o : Option X) → In o xs → o ≡ None
nothing_first [] is o within = absurd within
nothing_first {X} (x ∷ xs) is o (inl same) = subst (λ (y : Option X). y ≡ None) same (no_first x (first_of xs) is).0
nothing_first (x ∷ xs) is o (inr within) = nothing_first xs (no_first x (first_of xs) is).1 o within

no_guid_fault : (t : Topology) (lid : ℕ) → port_guid_fault t lid ≡ None → ((port_guid t lid == 0) ≡ false) × (repeats_port_guid t lid ≡ false)
no_guid_fault t lid is = go (port_guid t lid == 0) is
  where
    go : (b : Bool) → (if b then Some (unfit.NoPortGuid (lid_id lid)) else then_some (repeats_port_guid t lid) (unfit.TwicePortGuid (lid_id lid) (port_guid t lid))) ≡ None →
        (b ≡ false) × (repeats_port_guid t lid ≡ false)
    go true x = absurd (cc)
    go false x = (refl, not_some (repeats_port_guid t lid) (unfit.TwicePortGuid (lid_id lid) (port_guid t lid)) x)

above_0 : (n : ℕ) → (n == 0) ≡ false → 0 < n
above_0 zero is = absurd (both_ways (0 == 0) is (eq-eqb 0 0 refl))
above_0 (suc n) is = omega arith

module _ (t : Topology) (kept : IsFabric t) (good_guids : (lid : ℕ) → In lid (lids_of t) → port_guid_fault t lid ≡ None) where
  -- a lesser LID has another port GUID
  apart : (a b : ℕ) → In a (lids_of t) → In b (lids_of t) → a < b → port_guid t a ≡ port_guid t b → ⊥
  apart a b in_a in_b less same =
      let none : (nat_lt a b && (port_guid t a == port_guid t b)) ≡ false
      = list_any_false (λ other. nat_lt other b && (port_guid t other == port_guid t b)) (lids_of t) (no_guid_fault t b (good_guids b in_b)).1 a in_a in
      both_ways (port_guid t a == port_guid t b) (second_false (nat_lt a b) (port_guid t a == port_guid t b) (lt-ltb a b less) none) (eq-eqb (port_guid t a) (port_guid t b) same)

  one_lid : (a b : ℕ) → In a (lids_of t) → In b (lids_of t) → port_guid t a ≡ port_guid t b → a ≡ b
  one_lid a b in_a in_b same = elim (cases_order a b) [
    | inl e ↦ e
    | inr (inl less) ↦ absurd (apart a b in_a in_b less same)
    | inr (inr more) ↦ absurd (apart b a in_b in_a more (sym same))
  ]

  module _ (e : Entries) (s : ℕ) where
    -- what holds of the rows of reached LIDs holds of all
    of_rows : (P : TableRow → Type 0) → ((lid : ℕ) → In lid (lids_of t) → is_reached t e s lid ≡ true → P (table_row t e s lid)) → All P (table_rows t e s)
    of_rows P each = All_from_in P (table_rows t e s) (λ row within. from_row row (from_map (table_row t e s) (filter (is_reached t e s) (lids_of t)) row within))
      where
        from_row : (row : TableRow) → (lid : ℕ) × In lid (filter (is_reached t e s) (lids_of t)) × (table_row t e s lid ≡ row) → P row
        from_row row r = let both = from_filter (is_reached t e s) (lids_of t) r.0 r.1 in subst P r.2 (each r.0 both.0 both.1)

    lids_of_rows : (lids : List ℕ) → map (λ (row : TableRow). row.lid) (map (table_row t e s) lids) ≡ lids
    lids_of_rows [] = refl
    lids_of_rows (lid ∷ lids) = ap (λ xs. lid ∷ xs) (lids_of_rows lids)

    are_rows : AreRowsOf t e s
    are_rows = record {
      ports = of_rows (λ row. row.port ≤ ports_of t s) (λ lid within is. port_fits t e kept.rows lid (length t.switches) s (delivered_is _ is));
      ascending = subst IsStrictlyIncreasing (sym (lids_of_rows (filter (is_reached t e s) (lids_of t)))) (IsStrictlyIncreasing-filter (is_reached t e s) (lids_of t) (lids_ascend t kept));
      guids = of_rows (λ row. 0 < row.guid) (λ lid within is. above_0 (port_guid t lid) (no_guid_fault t lid (good_guids lid within)).0);
    }

-- ---- lines

table_row_length : (row : TableRow) → length (table_row_text row) ≤ 140
unfolding table_row_text
table_row_length row =
    omega (
      arith,
      length-concat (hex4 row.lid) (codes " " ∷ port3 row.port ∷ codes " : portguid " ∷ hex16 row.guid ∷ []),
      length-concat (port3 row.port) (codes " : portguid " ∷ hex16 row.guid ∷ []),
      length-concat (hex16 row.guid) [],
      length-hex4 row.lid,
      length-port row.port,
      length-hex16 row.guid,
    )

module _ (t : Topology) (kept : IsFabric t) (e : Entries) where
  abbrev IsShort : List ℕ → Type 0
  IsShort line = length line ≤ 140

  head_short : (row : SwitchRow) → In row t.switches → IsShort (table_head_text (lids_of t) row)
  head_short row within =
      let lid : (0 < row.lid.0) × (row.lid.0 ≤ greatest_lid) = in_all (λ (r : SwitchRow). (0 < r.lid.0) × (r.lid.0 ≤ greatest_lid)) t.switches kept.rows.switch_lids row within in
      table_head_length (lids_of t) row (omega (arith, lid.1)) (in_all (λ (r : SwitchRow). IsDescription r.desc) t.switches kept.types.switch_descriptions row within).within

  block_short : (x : ℕ × SwitchRow) → In x (enumerate_from 0 t.switches) → All IsShort (exported_block t e x)
  block_short x within =
      let at = from_enumerate 0 t.switches x within in
      All-cons IsShort (table_head_text (lids_of t) x.1) (map table_row_text (table_rows t e x.0)) (head_short x.1 (slice_get_in t.switches at.0 x.1 at.2))
      (All_from_in IsShort (map table_row_text (table_rows t e x.0)) (λ line w. let from = from_map table_row_text (table_rows t e x.0) line w in subst IsShort from.2 (table_row_length from.0)))

  lines_short : All IsShort (table_lines t e)
  lines_short = All-cons IsShort (codes "# fabroute tables") (flat_map (exported_block t e) (enumerate_from 0 t.switches)) (omega arith)
      (all_flat_map IsShort (exported_block t e) (enumerate_from 0 t.switches) (All_from_in (λ x. All IsShort (exported_block t e x)) (enumerate_from 0 t.switches) block_short))

pub tables_can_be_loaded : TablesCanBeLoaded
tables_can_be_loaded t p of_part kept fits fit = record {
  rows = λ s low. are_rows t kept good p.tables s;
  one_lid = λ a b in_a in_b same. one_lid t kept good a b (in_from_Contains (lids_of t) a in_a) (in_from_Contains (lids_of t) b in_b) same;
  short = lines_short t kept p.tables;
}
  where
    good : (lid : ℕ) → In lid (lids_of t) → port_guid_fault t lid ≡ None
    good lid within =
        nothing_first (map (port_guid_fault t) (lids_of t)) (sym (rows_of_fit t p of_part fit.0 fit.2).port_guids) (port_guid_fault t lid) (in_map (port_guid_fault t) (lids_of t) lid within)
