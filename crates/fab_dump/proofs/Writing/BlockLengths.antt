-- How long the blocks of a plan's text can be.
use Rattle.std.proofs.Common.{◌≡◌, ℕ, ◌+◌, ◌*◌, ◌<◌, ◌≤◌, ◌^◌, List, [], ◌∷◌, length, map, arith}
use Rattle.std.specs.Prelude.{All, flat_map, filter, ◌==◌}
use Rattle.std.specs.List.{enumerate_from, range_with_len}
use Rattle.std.proofs.lemmas.Bool.{cond_both}
use Rattle.std.proofs.lemmas.List.{length-append}
use Rattle.std.proofs.lemmas.List.FromFn.{length-range_with_len}
use Rattle.std.proofs.lemmas.List.Elements.{All-head, All-tail, All-filter}
use Rattle.fab_model.specs.declared.rows.SwitchRow.{SwitchRow}
use Rattle.fab_model.specs.declared.rows.ChannelRow.{ChannelRow}
use Rattle.fab_model.specs.Topology.{Topology, lids_of, is_source, guid_of}
use Rattle.fab_tables.specs.declared.lanes.PairRow.{PairRow}
use Rattle.fab_tables.specs.Entries.{Entries, entry}
use Rattle.fab_tables.specs.LaneTables.{LaneTables, level, number}
use Rattle.fab_dump.specs.Lines.{levels_head, map_head}
use Rattle.fab_dump.specs.Writing.{port3, level2, table_head_text, block_rows, table_block, guid_head_text, levels_block, general_map, lanes_text, general_block, is_of_switch, pair_rows, pair_text, map_block, number_text, number_line, number_lines}
use Rattle.fab_dump.proofs.Round.WrittenNumbers.{length-port}
use Rattle.fab_dump.proofs.Writing.Lanes.{general_long}
use Rattle.fab_dump.proofs.Writing.LineLengths.{size, size_none, size_cons, size_one, size_append, size_map, size_flat_map, length-level, length-guid_head, block_length, table_head_length, lanes_length, pair_length, number_length}

-- a switch as its head says it
abbrev pub HasShortHead : SwitchRow → Type 0
HasShortHead row = (row.lid.0 < 10 ^ 5) × (length row.desc ≤ 64)

-- lines of each numbered row
pub size_numbered : {X : Type 0} (write : ℕ × X → List (List ℕ)) (P : X → Type 0) (bound : ℕ) → ((i : ℕ) (x : X) → P x → size (write (i, x)) ≤ bound) → (from : ℕ) (xs : List X) → All P xs →
    size (flat_map write (enumerate_from from xs)) ≤ length xs * bound
size_numbered write P bound each from [] all = omega (arith, size_none)
size_numbered write P bound each from (x ∷ xs) all =
    omega (arith, size_append (write (from, x)) (flat_map write (enumerate_from (from + 1) xs)), each from x (All-head P x xs all), size_numbered write P bound each (from + 1) xs (All-tail P x xs all))

module _ (t : Topology) (few : length (lids_of t) ≤ 16384) where
  -- 256 rows of 263 bytes, and a head
  pub table_size : (e : Entries) (s : ℕ) (row : SwitchRow) → HasShortHead row → size (table_block t e (s, row)) ≤ 67469
  table_size e s row short =
      let rows : size (block_rows t (λ lid. port3 (entry e s lid))) ≤ 256 * (7 + 64 * (3 + 1)) = block_length t (λ lid. port3 (entry e s lid)) 3 (λ lid. length-port (entry e s lid)) few in
      omega (arith, size_cons (table_head_text (lids_of t) row) (block_rows t (λ lid. port3 (entry e s lid))), table_head_length (lids_of t) row short.0 short.1, rows)

  -- 256 rows of 199 bytes, and a head
  pub levels_size : (l : LaneTables) (s : ℕ) (row : SwitchRow) → size (levels_block t l (s, row)) ≤ 50986
  levels_size l s row =
      cond_both (is_source t s) (guid_head_text levels_head row.guid ∷ block_rows t (λ lid. level2 (level l s lid))) [] (λ lines. size lines ≤ 50986)
      (λ e. omega (arith, size_cons (guid_head_text levels_head row.guid) (block_rows t (λ lid. level2 (level l s lid))), length-guid_head levels_head row.guid, rows))
      (λ e. omega (arith, size_none))
    where
      rows : size (block_rows t (λ lid. level2 (level l s lid))) ≤ 256 * (7 + 64 * (2 + 1))
      rows = block_length t (λ lid. level2 (level l s lid)) 2 (λ lid. length-level (level l s lid)) few

-- ---- lane maps

general_size : (l : LaneTables) (s guid : ℕ) → size (general_block l s guid) ≤ 93
general_size l s guid =
    omega (arith, size_cons (guid_head_text map_head guid) (lanes_text (general_map l s) ∷ []), size_one (lanes_text (general_map l s)), length-guid_head map_head guid, lanes_length (general_map l s), general_long l s)

abbrev pub HasAllLevels : PairRow → Type 0
HasAllLevels p = length p.map ≡ 16

pairs_size : (pairs : List PairRow) → All HasAllLevels pairs → size (map pair_text pairs) ≤ length pairs * 59
pairs_size pairs all = size_map pair_text HasAllLevels 59 (λ p h. omega (arith, pair_length p h)) pairs all

-- the pairs of all switches
abbrev pub pairs_by_switch : {X : Type 0} → List PairRow → ℕ → List X → List PairRow
pairs_by_switch pairs from rows = flat_map (λ s. filter (is_of_switch s.0) pairs) (enumerate_from from rows)

pub maps_size : (l : LaneTables) → All HasAllLevels l.pairs → (from : ℕ) (rows : List SwitchRow) →
    size (flat_map (map_block l) (enumerate_from from rows)) ≤ length rows * 93 + length (pairs_by_switch l.pairs from rows) * 59
maps_size l all from [] = omega (arith, size_none)
maps_size l all from (row ∷ rows) =
    let here : List PairRow = filter (is_of_switch from) l.pairs in
    omega (
      arith,
      size_append (map_block l (from, row)) (flat_map (map_block l) (enumerate_from (from + 1) rows)),
      size_append (general_block l from row.guid) (pair_rows l.pairs from),
      general_size l from row.guid,
      pairs_size here (All-filter (is_of_switch from) HasAllLevels l.pairs all),
      maps_size l all (from + 1) rows,
      length-append here (pairs_by_switch l.pairs (from + 1) rows),
    )

-- ---- numbers

pub numbers_size : (t : Topology) (l : LaneTables) → ((c on_lane : ℕ) → number l c on_lane < 2 ^ 32) → (c : ℕ) (row : ChannelRow) → size (number_lines t l (c, row)) ≤ 555
numbers_size t l few c row =
    omega (arith, size_flat_map (number_line t l (c, row)) 37 one (range_with_len 0 15), length-range_with_len 0 15)
  where
    one : (on_lane : ℕ) → size (number_line t l (c, row) on_lane) ≤ 37
    one on_lane =
        cond_both (number l c on_lane == 0) [] (number_text (guid_of t row.tail.0) row.port on_lane (number l c on_lane) ∷ []) (λ lines. size lines ≤ 37)
        (λ e. omega (arith, size_none))
        (λ e. omega (arith, size_one (number_text (guid_of t row.tail.0) row.port on_lane (number l c on_lane)), number_length (guid_of t row.tail.0) row.port on_lane (number l c on_lane) (few c on_lane)))
