-- The entries that the rows of the tables say.
use Rattle.std.proofs.Common.{◌≡◌, ℕ, ◌<◌, inl, inr, Bool, true, false, List, length, Option, Some, None, refl, sym, ◌∙◌, ap, subst, arith, get_or, lit<, slice_get, Contains}
use Rattle.std.specs.Prelude.{if◌then◌else◌, map, nat_lt}
use Rattle.std.specs.List.{range_with_len}
use Rattle.std.proofs.lemmas.Bool.{cases_lt, false_from_ne_true}
use Rattle.std.proofs.lemmas.List.{get_or_past}
use Rattle.std.proofs.lemmas.Option.{get_or_from_slice_get}
use Rattle.fab_model.specs.Topology.{Topology}
use Rattle.fab_model.specs.Connected.{IsConnectedTo}
use Rattle.fab_model.proofs.Lists.Members.{In, All_from_in, from_map}
use Rattle.fab_tables.specs.Entries.{Entries, AreEntries, index_of, cell, entry, port_in_column}
use Rattle.fab_tables.specs.Fit.{EntriesFit}
use Rattle.fab_tables.proofs.Rows.Cells.{index_found, index_there, port_there, port_past}
use Rattle.fab_tables.proofs.Paths.FallingRoutes.{connected_below}
use Rattle.fab_tables.proofs.Joined.Lids.{connected_in_use}
use Rattle.fab_dump.proofs.Round.Writes.{all_parts}
use Rattle.fab_export.specs.Reached.{is_reached}
use Rattle.fab_export.specs.SaidPlan.{port_said, entries_said}
use Rattle.fab_export.specs.Laws.{EntriesAreSaid}
use Rattle.fab_export.proofs.Cells.{length-by_lid, lid_cell}
use Rattle.fab_export.proofs.Reaching.{reached_is_connected}
use Rattle.fab_export.proofs.ListTests.{chosen_if, other_if}

-- what a list has at the place of a number
pub there_at : (lids : List ℕ) (lid i : ℕ) → slice_get lids i ≡ Some lid → get_or lids i 0 ≡ lid
there_at lids lid i is = get_or_from_slice_get lids i lid 0 is

module _ (t : Topology) (e : Entries) where
  pub said_there : (s lid i : ℕ) → index_of lid e.in_use ≡ Some i → s < e.switches → entry (entries_said t e) s lid ≡ port_said t e s lid
  said_there s lid i is low =
      let found : (i < length e.in_use) × (slice_get e.in_use i ≡ Some lid) = index_found lid e.in_use i is in
      ap (port_in_column (entries_said t e) s) is
      ∙ port_there (entries_said t e) s i low
      ∙ lid_cell e.switches (port_said t e) e.in_use i s 0 255 low found.0
      ∙ ap (port_said t e s) (there_at e.in_use lid i found.1)

  said_255 : (s lid : ℕ) → is_reached t e s lid ≡ false → (column : Option ℕ) → index_of lid e.in_use ≡ column → port_in_column (entries_said t e) s column ≡ 255
  said_255 s lid fails None is = refl
  said_255 s lid fails (Some i) is = elim (cases_lt s e.switches) [
    | inl low ↦ ap (port_in_column (entries_said t e) s) (sym is) ∙ said_there s lid i is low ∙ other_if (is_reached t e s lid) (entry e s lid) 255 fails
    | inr high ↦ port_past (entries_said t e) s (Some i) high
  ]

  pub entry_small : (s : ℕ) (column : Option ℕ) → AreEntries e → port_in_column e s column < 256
  entry_small s None are = lit< tt
  entry_small s (Some i) are = inside (nat_lt s e.switches)
    where
      inside : (b : Bool) → (if b then get_or e.ports (cell e.switches i s) 255 else 255) < 256
      inside true = elim (cases_lt (cell e.switches i s) (length e.ports)) [
        | inl low ↦ are.low_ports (cell e.switches i s) 255 low
        | inr past ↦ subst (λ n. n < 256) (sym (get_or_past e.ports (cell e.switches i s) 255 past)) (lit< tt)
      ]
      inside false = lit< tt

  said_small : (s lid : ℕ) → AreEntries e → port_said t e s lid < 256
  said_small s lid are = go (is_reached t e s lid)
    where
      go : (b : Bool) → (if b then entry e s lid else 255) < 256
      go true = entry_small s (index_of lid e.in_use) are
      go false = lit< tt

  said_fit : EntriesFit t e → EntriesFit t (entries_said t e)
  said_fit fits = record {
    whole = record {
      ascending = fits.whole.ascending;
      whole = length-by_lid e.switches (port_said t e) e.in_use;
      low_lids = fits.whole.low_lids;
      low_ports =
          all_parts (λ port. port < 256) (λ lid. map (λ s. port_said t e s lid) (range_with_len 0 e.switches)) e.in_use (λ lid. All_from_in (λ port. port < 256) (map (λ s. port_said t e s lid) (range_with_len 0 e.switches)) (each lid));
    };
    switches = fits.switches;
    in_use = fits.in_use;
  }
    where
      each : (lid port : ℕ) → In port (map (λ s. port_said t e s lid) (range_with_len 0 e.switches)) → port < 256
      each lid port within = let from = from_map (λ s. port_said t e s lid) (range_with_len 0 e.switches) port within in subst (λ n. n < 256) from.2 (said_small from.0 lid fits.whole)

pub entries_are_said : EntriesAreSaid
entries_are_said t e kept fits reaches = record { fits = said_fit t e fits; there = there; elsewhere = elsewhere }
  where
    there : (s lid : ℕ) → IsConnectedTo t s lid → entry (entries_said t e) s lid ≡ entry e s lid
    there s lid connected = go (index_of lid e.in_use) refl
      where
        go : (column : Option ℕ) → index_of lid e.in_use ≡ column → entry (entries_said t e) s lid ≡ entry e s lid
        go None is = absurd (missing (subst (λ xs. Contains xs lid) (sym fits.in_use) (connected_in_use t s lid connected)) is)
          where
            missing : Contains e.in_use lid → index_of lid e.in_use ≡ None → ⊥
            missing has none = index_there lid e.in_use has.0 has.1 has.2 none
        go (Some i) is =
            said_there t e s lid i is (omega (arith, fits.switches, connected_below t kept.rows s lid connected))
            ∙ chosen_if (is_reached t e s lid) (entry e s lid) 255 ((reached_is_connected t e s lid reaches).1 connected)

    elsewhere : (s lid : ℕ) → ¬ IsConnectedTo t s lid → entry (entries_said t e) s lid ≡ 255
    elsewhere s lid apart =
        said_255 t e s lid (false_from_ne_true (is_reached t e s lid) (λ is. apart ((reached_is_connected t e s lid reaches).0 is))) (index_of lid e.in_use) refl
