-- Each member of a group that has tables has a list of what is reached from it.
use Rattle.std.proofs.Common.{◌≡◌, ℕ, suc, ◌<◌, Bool, true, List, [], ◌∷◌, length, Option, Some, None, Contains, All, refl, ap, sym, ◌∙◌, subst, arith}
use Rattle.std.specs.Prelude.{◌==◌, slice_get, filter, position}
use Rattle.std.specs.List.{list_any, range_with_len}
use Rattle.std.proofs.lemmas.Bool.{eqb-true, eq-eqb}
use Rattle.std.proofs.lemmas.List.Kept.{IsStrictlyIncreasing-filter}
use Rattle.std.proofs.lemmas.List.Quantifiers.{position-Some}
use Rattle.std.proofs.lemmas.Option.{none-some}
use Rattle.fab_model.specs.declared.rows.TerminalRow.{TerminalRow}
use Rattle.fab_model.specs.Topology.{Topology, is_cabled_at, terminal_at}
use Rattle.fab_model.specs.WellFormed.{IsFabric}
use Rattle.fab_model.proofs.Lists.Members.{In, in_from_Contains, Contains_from_in, in_all, from_filter, in_filter, from_filter_map, list_any_from_in, from_list_any}
use Rattle.fab_model.proofs.Lists.FlatMaps.{from_flat_map}
use Rattle.fab_model.proofs.Lists.Found.{in_range, range_rises, slice_get_some}
use Rattle.fab_model.proofs.Faultless.Facts.{slice_get_in}
use Rattle.fab_mcast.specs.Copies.{Copy, ports_on, reached_by, copies_within}
use Rattle.fab_mcast.specs.GroupTrees.{Planted, ArePlanted, entries_in, members_in, entries_at}
use Rattle.fab_mcast.specs.Laws.{SpreadExists}
use Rattle.fab_mcast.specs.Spreads.{first_copy, IsSpread, reached}
use Rattle.fab_mcast.proofs.AllCopies.{increasing}
use Rattle.fab_mcast.proofs.Planting.{planted_ends}

module _ (t : Topology) where
  position_low : (p : TerminalRow → Bool) (rows : List TerminalRow) (n : ℕ) → position p rows ≡ Some n → n < length rows
  position_low p [] n e = absurd (none-some n e)
  position_low p (row ∷ rows) n e = (position-Some p (row ∷ rows) n row e).0

  module _ (ports : List (List ℕ)) (all : List Copy) where
    abbrev is_reached : ℕ → Bool
    is_reached n = list_any (λ m. m == n) (reached t ports all)

    abbrev found : List ℕ
    found = filter is_reached (range_with_len 0 (length t.terminals))

    reached_low : (n : ℕ) → In n (reached t ports all) → n < length t.terminals
    reached_low n at =
        let copy : (z : Copy) × In z all × In n (reached_by t ports z) = from_flat_map (reached_by t ports) all n at in
        let port : (port : ℕ) × In port (ports_on ports copy.0) × (terminal_at t copy.0.at port ≡ Some n) = from_filter_map (λ port. terminal_at t copy.0.at port) (ports_on ports copy.0) n copy.2 in
        position_low (is_cabled_at copy.0.at port.0) t.terminals n port.2

    pub to_reached : (n : ℕ) → Contains found n → Contains (reached t ports all) n
    to_reached n h =
        let any : is_reached n ≡ true = (from_filter is_reached (range_with_len 0 (length t.terminals)) n (in_from_Contains found n h)).1 in
        let m : (m : ℕ) × In m (reached t ports all) × ((m == n) ≡ true) = from_list_any (λ m. m == n) (reached t ports all) any in
        Contains_from_in (reached t ports all) n (subst (λ k. In k (reached t ports all)) (eqb-true m.0 n m.2) m.1)

    pub from_reached : (n : ℕ) → Contains (reached t ports all) n → Contains found n
    from_reached n h =
        let at : In n (reached t ports all) = in_from_Contains (reached t ports all) n h in
        Contains_from_in found n (in_filter is_reached (range_with_len 0 (length t.terminals)) n (in_range 0 (length t.terminals) n (omega arith) (omega (arith, reached_low n at)))
        (list_any_from_in (λ m. m == n) (reached t ports all) n at (eq-eqb n n refl)))

    pub spread_by : (from steps : ℕ) (row : TerminalRow) → slice_get t.terminals from ≡ Some row → copies_within t ports steps (first_copy row) ≡ all → copies_within t ports (suc steps) (first_copy row) ≡ all →
        IsSpread t ports from found
    spread_by from steps row is_row are no_more = record {
      row = row;
      is_row = is_row;
      all = all;
      copies = record { steps = steps; are = are; no_more = no_more };
      ascending = IsStrictlyIncreasing-filter is_reached (range_with_len 0 (length t.terminals)) (increasing (range_with_len 0 (length t.terminals)) (range_rises 0 (length t.terminals)));
      each = λ n. (to_reached n, from_reached n);
    }

pub spread_exists : SpreadExists
spread_exists t groups tables index from is are known has = by (slice_get tables index) refl has
  where
    by : (o : Option Planted) → slice_get tables index ≡ o → Contains (members_in o) from → (found : List ℕ) × IsSpread t (entries_in o) from found
    by None at h = absurd (in_from_Contains [] from h)
    by (Some group) at h = of (slice_get_some t.terminals from low)
      where
        low : from < length t.terminals
        low = in_all (λ n. n < length t.terminals) group.members (in_all (λ (g : Planted). All (λ n. n < length t.terminals) g.members) tables known group (slice_get_in tables index group at)) from (in_from_Contains group.members from h)

        of : (row : TerminalRow) × (slice_get t.terminals from ≡ Some row) → (found : List ℕ) × IsSpread t group.ports from found
        of row = (
          _,
          spread_by t group.ports (copies_within t group.ports (suc (length t.switches)) (first_copy row.0)) from (suc (length t.switches)) row.0 row.1 refl
              (planted_ends t groups tables index group from row.0 is are at h row.1),
        )
