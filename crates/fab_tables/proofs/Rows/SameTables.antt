-- Tables that fit a fabric are given by their entries. Lanes that fit it are given by their levels where they have the engines' maps, and
-- their numbers by those of the virtual channels.
use Rattle.std.proofs.Common.{◌≡◌, ℕ, ◌*◌, ◌<◌, List, length, sym, ◌∙◌, ap, subst, refl, arith, None, Option}
use Rattle.std.specs.Prelude.{slice_index_or, nat_lt}
use Rattle.std.specs.List.Sorted.{IsStrictlyIncreasing}
use Rattle.std.proofs.lemmas.Bool.{cond-true, lt-ltb}
use Rattle.fab_model.specs.Topology.{Topology, lids_of}
use Rattle.fab_tables.specs.declared.lanes.PairRow.{PairRow}
use Rattle.fab_tables.specs.Entries.{Entries, index_of, cell, port_in_column, entry}
use Rattle.fab_tables.specs.LaneTables.{LaneTables, AreLaneTables, level, level_in_column, lane, lane_of_level, number, HasLanePerLevel}
use Rattle.fab_tables.specs.Fit.{EntriesFit, LanesFit}
use Rattle.fab_tables.proofs.Rows.Cells.{port_there, level_there}
use Rattle.fab_tables.proofs.Rows.SameCells.{same_cells, place_is}

-- tables with the same entries are the same
module _ (t : Topology) (e f : Entries) (x : EntriesFit t e) (y : EntriesFit t f) (same : (s lid : ℕ) → entry e s lid ≡ entry f s lid) where
  entry_at : (g : Entries) (s i : ℕ) → EntriesFit t g → s < length t.switches → i < length (lids_of t) → slice_index_or g.ports (cell (length t.switches) i s) 255 ≡ entry g s (slice_index_or (lids_of t) i 0)
  entry_at g s i z of_fabric low =
      sym (ap (λ ns. port_in_column g s (index_of (slice_index_or (lids_of t) i 0) ns)) z.in_use
      ∙ ap (λ o. port_in_column g s o) (place_is (lids_of t) i (subst IsStrictlyIncreasing z.in_use z.whole.ascending) low)
      ∙ port_there g s i (omega (arith, of_fabric, z.switches))
      ∙ ap (λ n. slice_index_or g.ports (cell n i s) 255) z.switches)

  ports : e.ports ≡ f.ports
  ports = same_cells e.ports f.ports (length (lids_of t)) (length t.switches) 255 (all_ports e x) (all_ports f y)
      (λ i s a b. entry_at e s i x b a ∙ same s (slice_index_or (lids_of t) i 0) ∙ sym (entry_at f s i y b a))
    where
      all_ports : (g : Entries) → EntriesFit t g → length g.ports ≡ length (lids_of t) * length t.switches
      all_ports g z = z.whole.whole ∙ ap (λ ns. length ns * g.switches) z.in_use ∙ ap (λ n. length (lids_of t) * n) z.switches

  pub entries_same : e ≡ f
  entries_same =
      ap (λ n. record { switches = n; in_use = e.in_use; ports = e.ports }) (x.switches ∙ sym y.switches)
      ∙ ap (λ ns. record { switches = f.switches; in_use = ns; ports = e.ports }) (x.in_use ∙ sym y.in_use)
      ∙ ap (λ ps. record { switches = f.switches; in_use = f.in_use; ports = ps }) ports

same_tables : (count switches channels : ℕ) (in_use : List ℕ) (levels : List (Option ℕ)) (general : List ℕ) (pairs : List PairRow) (m : LaneTables) → m.count ≡ count → m.switches ≡ switches → m.channels ≡ channels →
    m.in_use ≡ in_use → m.levels ≡ levels → m.general ≡ general → m.pairs ≡ pairs →
    m ≡ record { count = count; switches = switches; channels = channels; in_use = in_use; levels = levels; general = general; pairs = pairs; numbers = m.numbers }
same_tables count switches channels in_use levels general pairs m a b c d e f g = rw (sym a, sym b, sym c, sym d, sym e, sym f, sym g) refl

-- lanes that fit, with the engines' maps and the same levels, differ in their numbers alone
module _ (t : Topology) (l m : LaneTables) (x : LanesFit t l) (y : LanesFit t m) (count : l.count ≡ m.count) (maps_l : HasLanePerLevel l) (maps_m : HasLanePerLevel m)
    (same : (s lid : ℕ) → level l s lid ≡ level m s lid) where
  level_at : (k : LaneTables) (s i : ℕ) → LanesFit t k → s < length t.switches → i < length (lids_of t) → slice_index_or k.levels (cell (length t.switches) i s) None ≡ level k s (slice_index_or (lids_of t) i 0)
  level_at k s i z of_fabric low =
      sym (ap (λ ns. level_in_column k s (index_of (slice_index_or (lids_of t) i 0) ns)) z.in_use
      ∙ ap (λ o. level_in_column k s o) (place_is (lids_of t) i (subst IsStrictlyIncreasing z.in_use z.whole.ascending) low)
      ∙ level_there k s i (omega (arith, of_fabric, z.switches))
      ∙ ap (λ n. slice_index_or k.levels (cell n i s) None) z.switches)

  levels : m.levels ≡ l.levels
  levels = same_cells m.levels l.levels (length (lids_of t)) (length t.switches) None (whole m y) (whole l x)
      (λ i s a b. level_at m s i y b a ∙ sym (same s (slice_index_or (lids_of t) i 0)) ∙ sym (level_at l s i x b a))
    where
      whole : (k : LaneTables) → LanesFit t k → length k.levels ≡ length (lids_of t) * length t.switches
      whole k z = z.whole.all_levels ∙ ap (λ (ns : List ℕ). length ns * k.switches) z.in_use ∙ ap (λ n. length (lids_of t) * n) z.switches

  general : m.general ≡ l.general
  general = same_cells m.general l.general (length t.switches) 16 15 (whole m y) (whole l x) (λ row i a b. mapped m row i y maps_m a b ∙ ap (λ n. lane_of_level n i) (sym count) ∙ sym (mapped l row i x maps_l a b))
    where
      whole : (k : LaneTables) → LanesFit t k → length k.general ≡ length t.switches * 16
      whole k z = z.whole.all_general ∙ ap (λ n. n * 16) z.switches

      mapped : (k : LaneTables) (row i : ℕ) → LanesFit t k → HasLanePerLevel k → row < length t.switches → i < 16 → lane k row i ≡ lane_of_level k.count i
      mapped k row i z per_level a b = per_level.general row i (omega (arith, a, z.switches)) b

  pub same_but_numbers : m ≡ record l { numbers = m.numbers }
  same_but_numbers =
      same_tables l.count l.switches l.channels l.in_use l.levels l.general l.pairs m (sym count) (y.switches ∙ sym x.switches) (y.channels ∙ sym x.channels) (y.in_use ∙ sym x.in_use) levels general
      (maps_m.no_pair ∙ sym maps_l.no_pair)

-- lanes with the same number for each channel and lane have the same numbers
module _ (l m : LaneTables) (x : AreLaneTables l) (y : AreLaneTables m) (channels : l.channels ≡ m.channels) (same : (channel of_lane : ℕ) → number l channel of_lane ≡ number m channel of_lane) where
  number_at : (k : LaneTables) (channel of_lane : ℕ) → of_lane < 15 → slice_index_or k.numbers (cell 15 channel of_lane) 0 ≡ number k channel of_lane
  number_at k channel of_lane low = sym (cond-true (nat_lt of_lane 15) (slice_index_or k.numbers (cell 15 channel of_lane) 0) 0 (lt-ltb of_lane 15 low))

  pub numbers_same : l.numbers ≡ m.numbers
  numbers_same = same_cells l.numbers m.numbers l.channels 15 0 x.all_numbers (y.all_numbers ∙ ap (λ n. n * 15) (sym channels))
      (λ c i a b. number_at l c i b ∙ same c i ∙ sym (number_at m c i b))
