-- The tables that a plan's text says are the plan's.
use Rattle.std.proofs.Common.{◌≡◌, ◌≢◌, ℕ, ◌*◌, ◌<◌, List, [], length, map, get_or, replicate, refl, sym, ◌∙◌, ap, subst, arith, Option, Some, None, inr}
use Rattle.std.specs.Prelude.{All, flat_map, fold}
use Rattle.std.specs.List.{enumerate_from}
use Rattle.std.specs.List.Sorted.{IsStrictlyIncreasing}
use Rattle.std.proofs.lemmas.List.{length-replicate}
use Rattle.std.proofs.lemmas.List.Elements.{All-nil, All-cons, All-map}
use Rattle.fab_model.specs.declared.rows.SwitchRow.{SwitchRow}
use Rattle.fab_model.specs.Topology.{Topology, lids_of}
use Rattle.fab_tables.specs.Entries.{Entries, index_of, cell, entry, port_in_column, no_entries}
use Rattle.fab_tables.specs.Fit.{EntriesFit}
use Rattle.fab_tables.proofs.Rows.Cells.{port_there}
use Rattle.fab_dump.specs.Given.{Given, tables_with}
use Rattle.fab_dump.specs.Given.Given.{TableBlock, Port}
use Rattle.fab_dump.proofs.Writing.Rows.{Row, some_row}
use Rattle.fab_dump.proofs.Round.Said.{port_of, table_said, all_tables}
use Rattle.fab_dump.proofs.Round.Writes.{Has, Has-map, Has-flat_map, all_flat_map, all_numbered_parts, write_all, WritesTo, writes_of, IsRight, all_written}
use Rattle.fab_dump.proofs.Round.Folds.{column_write, port_write, tables_fold}
use Rattle.fab_dump.proofs.Round.Cells.{Place, place_of, row_there, lid_there, column_written}
use Rattle.fab_dump.proofs.Round.Stages.{Passes}

pub port_passes : (switches : ℕ) (lids : List ℕ) (n : ℕ) → 0 ≢ n → Passes (port_write switches lids) n
port_passes switches lids n other (Port s lid port) e = absurd (other e)
port_passes switches lids n other _ e = refl

abbrev made : ℕ → List ℕ → List ℕ → Entries
made n lids ports = record { switches = n; in_use = lids; ports = ports }

module _ (t : Topology) (e : Entries) (fit : EntriesFit t e) where
  abbrev writes : List (ℕ × ℕ)
  writes = flat_map (port_write (length t.switches) (lids_of t)) (all_tables t e)

  abbrev AreRight : Given → Type 0
  AreRight g = All (IsRight e.ports 255) (port_write (length t.switches) (lids_of t) g)

  -- each port that is said stands in the tables
  port_right : (s lid : ℕ) → s < length t.switches → AreRight (port_of e s lid)
  port_right s lid low = subst (λ (lids : List ℕ). All (IsRight e.ports 255) (port_write (length t.switches) lids (port_of e s lid))) fit.in_use
      (subst (λ (n : ℕ). All (IsRight e.ports 255) (port_write n e.in_use (port_of e s lid))) fit.switches (go (index_of lid e.in_use)))
    where
      go : (place : Option ℕ) → All (IsRight e.ports 255) (column_write e.switches s (port_in_column e s place) place)
      go None = All-nil (IsRight e.ports 255)
      go (Some i) = All-cons (IsRight e.ports 255) (cell e.switches i s, port_in_column e s (Some i)) [] (port_there e s i (omega (arith, low, fit.switches))) (All-nil (IsRight e.ports 255))

  block_right : (s : ℕ) (row : SwitchRow) → s < length t.switches → All AreRight (table_said t e (s, row))
  block_right s row low = All-cons AreRight (TableBlock s) (map (port_of e s) (lids_of t)) (All-nil (IsRight e.ports 255))
      (All-map AreRight (port_of e s) (lids_of t) (λ k d within. port_right s (get_or (lids_of t) k d) low))

  all_right : All (IsRight e.ports 255) writes
  all_right = all_flat_map (IsRight e.ports 255) (port_write (length t.switches) (lids_of t)) (all_tables t e) (all_numbered_parts AreRight (table_said t e) t.switches block_right)

  same_size : length e.ports ≡ length (lids_of t) * length t.switches
  same_size = fit.whole.whole ∙ ap (λ (lids : List ℕ). length lids * e.switches) fit.in_use ∙ ap (λ n. length (lids_of t) * n) fit.switches

  -- and each port of the tables is said
  all_said : (i : ℕ) → i < length e.ports → WritesTo i writes
  all_said i low =
      let at : Place (length t.switches) (length (lids_of t)) i = place_of (length t.switches) (length (lids_of t)) i (omega (arith, low, same_size)) in
      let row : Row t.switches at.column = some_row t.switches at.column at.column_low in
      let lid : ℕ = get_or (lids_of t) at.row 0 in
      let block : Has (port_of e at.column lid) (table_said t e (at.column, row.row)) = inr (Has-map (port_of e at.column) lid (lids_of t) (lid_there (lids_of t) at.row at.row_low)) in
      let there : Has (port_of e at.column lid) (all_tables t e)
      = Has-flat_map (table_said t e) (at.column, row.row) (enumerate_from 0 t.switches) (port_of e at.column lid) (row_there t.switches at.column row.row row.found) block in
      let written : WritesTo (cell (length t.switches) at.row at.column) (port_write (length t.switches) (lids_of t) (port_of e at.column lid))
      = column_written (lids_of t) at.row at.row_low (length t.switches) at.column (entry e at.column lid) ascending in
      writes_of (port_write (length t.switches) (lids_of t)) (all_tables t e) (port_of e at.column lid) i there (subst (λ (n : ℕ). WritesTo n (port_write (length t.switches) (lids_of t) (port_of e at.column lid))) at.at written)
    where
      ascending : IsStrictlyIncreasing (lids_of t)
      ascending = subst IsStrictlyIncreasing fit.in_use fit.whole.ascending

  pub ports_back : write_all (replicate (length (lids_of t) * length t.switches) 255) writes ≡ e.ports
  ports_back = all_written e.ports 255 (replicate (length (lids_of t) * length t.switches) 255) writes (length-replicate (length (lids_of t) * length t.switches) 255 ∙ sym same_size) all_right (λ i low. inr (all_said i low))

  -- the tables, from such statements
  pub entries_back : (given : List Given) → flat_map (port_write (length t.switches) (lids_of t)) given ≡ writes → fold tables_with (no_entries (length t.switches) (lids_of t)) given ≡ e
  entries_back given is =
      tables_fold (no_entries (length t.switches) (lids_of t)) given
      ∙ ap (λ (ws : List (ℕ × ℕ)). made (length t.switches) (lids_of t) (write_all (replicate (length (lids_of t) * length t.switches) 255) ws)) is
      ∙ ap (λ (ports : List ℕ). made (length t.switches) (lids_of t) ports) ports_back
      ∙ ap (λ (n : ℕ). made n (lids_of t) e.ports) (sym fit.switches)
      ∙ ap (λ (lids : List ℕ). made e.switches lids e.ports) (sym fit.in_use)
