-- How long a written line can be, and so many lines.
use Rattle.std.proofs.Common.{◌≡◌, ℕ, suc, ◌+◌, ◌-◌, ◌*◌, ◌^◌, ◌<◌, ◌≤◌, List, [], ◌∷◌, ◌++◌, length, map, drop, codes, None, Some, Option, slice_index, refl, ◌∙◌, ap, arith}
use Rattle.std.specs.Prelude.{All, flat_map, decimal}
use Rattle.std.specs.List.{concat, join_with_byte, range_with_len}
use Rattle.std.specs.Int.{div_ceil}
use Rattle.std.proofs.Math.Nat.{mul-le-mul_right}
use Rattle.std.proofs.lemmas.Fmt.{length-decimal-le}
use Rattle.std.proofs.lemmas.List.{length-append, length-take}
use Rattle.std.proofs.lemmas.List.Concat.{flat_map-append}
use Rattle.std.proofs.lemmas.List.FromFn.{length-range_with_len}
use Rattle.std.proofs.lemmas.List.Elements.{All-head, All-tail}
use Rattle.fab_model.specs.declared.rows.SwitchRow.{SwitchRow}
use Rattle.fab_model.specs.Topology.{Topology, lids_of}
use Rattle.fab_tables.specs.declared.lanes.PairRow.{PairRow}
use Rattle.fab_dump.specs.Writing.{hex4, hex16, port3, two, level2, lines_text, guid_head_text, row_of, row_text, numbered_row, block_rows, lids_text, switch_text, table_head_text, lanes_text, pair_text, number_text}
use Rattle.fab_text.proofs.Spelled.{length-last}
use Rattle.fab_dump.proofs.Round.WrittenNumbers.{length-port}

-- ---- lines, each with its line feed

unfoldable pub size : List (List ℕ) → ℕ
size lines = length (lines_text lines)

pub size_none : size [] ≡ 0
unfolding size
size_none = refl

pub size_cons : (line : List ℕ) (lines : List (List ℕ)) → size (line ∷ lines) ≡ length line + 1 + size lines
unfolding size
size_cons line lines = omega (arith, length-append (line ++ 10 ∷ []) (lines_text lines), length-append line (10 ∷ []))

pub size_append : (lines others : List (List ℕ)) → size (lines ++ others) ≡ size lines + size others
unfolding size
size_append lines others = ap length (flat_map-append (λ (line : List ℕ). line ++ 10 ∷ []) lines others) ∙ length-append (lines_text lines) (lines_text others)

pub size_one : (line : List ℕ) → size (line ∷ []) ≡ length line + 1
size_one line = omega (arith, size_cons line [], size_none)

one_more : (a b bound count : ℕ) → a ≤ bound → b ≤ count * bound → a + b ≤ suc count * bound
one_more a b bound count h k = omega (arith, h, k)

-- a line of each
pub size_map : {X : Type 0} (write : X → List ℕ) (P : X → Type 0) (bound : ℕ) → ((x : X) → P x → length (write x) + 1 ≤ bound) → (xs : List X) → All P xs → size (map write xs) ≤ length xs * bound
size_map write P bound each [] all = omega (arith, size_none)
size_map write P bound each (x ∷ xs) all =
    let rest : size (map write xs) ≤ length xs * bound = size_map write P bound each xs (All-tail P x xs all) in
    let more : (length (write x) + 1) + size (map write xs) ≤ suc (length xs) * bound = one_more _ _ bound (length xs) (each x (All-head P x xs all)) rest in
    omega (arith, size_cons (write x) (map write xs), more)

-- lines of each
pub size_flat_map : {X : Type 0} (write : X → List (List ℕ)) (bound : ℕ) → ((x : X) → size (write x) ≤ bound) → (xs : List X) → size (flat_map write xs) ≤ length xs * bound
size_flat_map write bound each [] = omega (arith, size_none)
size_flat_map write bound each (x ∷ xs) =
    let rest : size (flat_map write xs) ≤ length xs * bound = size_flat_map write bound each xs in
    let more : size (write x) + size (flat_map write xs) ≤ suc (length xs) * bound = one_more _ _ bound (length xs) (each x) rest in
    omega (arith, size_append (write x) (flat_map write xs), more)

-- ---- numbers and words

pub length-hex4 : (n : ℕ) → length (hex4 n) ≡ 6
unfolding hex4
length-hex4 n = omega (arith, length-last 16 4 n)

pub length-hex16 : (n : ℕ) → length (hex16 n) ≡ 18
unfolding hex16
length-hex16 n = omega (arith, length-last 16 16 n)

pub length-two : (n : ℕ) → length (two n) ≡ 2
unfolding two
length-two n = length-last 10 2 n

pub length-level : (level : Option ℕ) → length (level2 level) ≡ 2
length-level None = refl
length-level (Some n) = length-two n

pub length-guid_head : (words : List ℕ) (guid : ℕ) → length (guid_head_text words guid) ≡ length words + 19
unfolding guid_head_text
length-guid_head words guid =
    omega (arith, length-append words (concat (hex16 guid ∷ codes ":" ∷ [])), length-append (hex16 guid) (concat (codes ":" ∷ [])), length-hex16 guid)

-- ---- rows of LIDs

values_length : (value : ℕ → List ℕ) (width : ℕ) → ((lid : ℕ) → length (value lid) ≡ width) → (lids : List ℕ) → length (flat_map (λ lid. 32 ∷ value lid) lids) ≡ length lids * (width + 1)
values_length value width each [] = omega arith
values_length value width each (lid ∷ lids) =
    omega (arith, length-append (32 ∷ value lid) (flat_map (λ lid. 32 ∷ value lid) lids), each lid, values_length value width each lids)

pub row_length : (value : ℕ → List ℕ) (width : ℕ) → ((lid : ℕ) → length (value lid) ≡ width) → (lids : List ℕ) → length (row_text value lids) ≡ 6 + length lids * (width + 1)
unfolding row_text
row_length value width each lids =
    omega (arith, length-append (hex4 (slice_index lids 0)) (flat_map (λ lid. 32 ∷ value lid) lids), length-hex4 (slice_index lids 0), values_length value width each lids)

-- the rows of so many LIDs
pub block_length : (t : Topology) (value : ℕ → List ℕ) (width : ℕ) → ((lid : ℕ) → length (value lid) ≡ width) → length (lids_of t) ≤ 16384 → size (block_rows t value) ≤ 256 * (7 + 64 * (width + 1))
block_length t value width each few =
    let rows : size (block_rows t value) ≤ length (range_with_len 0 (div_ceil (length (lids_of t)) 64)) * (7 + 64 * (width + 1)) =
    size_map (numbered_row t value) (λ _. Unit {0}) (7 + 64 * (width + 1)) (λ number _. one number) (range_with_len 0 (div_ceil (length (lids_of t)) 64)) (λ _ _ _. tt) in
    bounded (length (range_with_len 0 (div_ceil (length (lids_of t)) 64))) (7 + 64 * (width + 1)) _ (omega (arith, length-range_with_len 0 (div_ceil (length (lids_of t)) 64), few_rows (length (lids_of t)) few)) rows
  where
    few_rows : (count : ℕ) → count ≤ 16384 → div_ceil count 64 ≤ 256
    few_rows count h = omega (arith, h)

    few_lids : (lids : List ℕ) (number : ℕ) → length (row_of lids number) ≤ 64
    few_lids lids number = omega (arith, length-take 64 (drop (number * 64) lids))

    wide : (count width : ℕ) → count ≤ 64 → count * (width + 1) ≤ 64 * (width + 1)
    wide count width h = mul-le-mul_right (width + 1) h

    one : (number : ℕ) → length (numbered_row t value number) + 1 ≤ 7 + 64 * (width + 1)
    one number = omega (arith, row_length value width each (row_of (lids_of t) number), wide (length (row_of (lids_of t) number)) width (few_lids (lids_of t) number))

    bounded : (count bound total : ℕ) → count ≤ 256 → total ≤ count * bound → total ≤ 256 * bound
    bounded count bound total h k = omega (arith, k, mul-le-mul_right bound h)

-- ---- heads of blocks

pub lid_length : (lid : ℕ) → lid < 10 ^ 5 → length (decimal lid) ≤ 5
lid_length lid h = length-decimal-le 5 lid (omega arith) h (omega (arith, h))

pub length-concat : (word : List ℕ) (words : List (List ℕ)) → length (concat (word ∷ words)) ≡ length word + length (concat words)
length-concat word words = length-append word (concat words)

lids_length : (lids : List ℕ) → length (lids_text lids) ≡ 39
unfolding lids_text
lids_length lids =
    let first : List ℕ = hex4 (slice_index lids 0) in
    let last : List ℕ = hex4 (slice_index lids (length lids - 1)) in
    omega (arith, length-concat first (codes "-" ∷ last ∷ codes "] of switch " ∷ []), length-concat last (codes "] of switch " ∷ []), length-hex4 (slice_index lids 0), length-hex4 (slice_index lids (length lids - 1)))

switch_length : (row : SwitchRow) → row.lid.0 < 10 ^ 5 → length row.desc ≤ 64 → length (switch_text row) ≤ 101
unfolding switch_text
switch_length row low short =
    omega (
      arith,
      length-concat (decimal row.lid.0) (codes " guid " ∷ hex16 row.guid ∷ codes " (" ∷ row.desc ∷ codes "):" ∷ []),
      length-concat (hex16 row.guid) (codes " (" ∷ row.desc ∷ codes "):" ∷ []),
      length-concat row.desc (codes "):" ∷ []),
      lid_length row.lid.0 low,
      length-hex16 row.guid,
      short,
    )

pub table_head_length : (lids : List ℕ) (row : SwitchRow) → row.lid.0 < 10 ^ 5 → length row.desc ≤ 64 → length (table_head_text lids row) ≤ 140
unfolding table_head_text
table_head_length lids row low short = omega (arith, length-append (lids_text lids) (switch_text row), lids_length lids, switch_length row low short)

-- ---- rows of lanes and of numbers

pub lanes_length : (lanes : List ℕ) → length (lanes_text lanes) ≤ length lanes * 3
unfolding lanes_text
lanes_length [] = omega arith
lanes_length (lane ∷ []) = omega (arith, length-two lane)
lanes_length (lane ∷ next ∷ lanes) =
    omega (arith, length-append (two lane) (32 ∷ join_with_byte 32 (map two (next ∷ lanes))), length-two lane, lanes_length (next ∷ lanes))

pub pair_length : (p : PairRow) → length p.map ≡ 16 → length (pair_text p) ≤ 58
unfolding pair_text
pair_length p all =
    omega (
      arith,
      length-concat (port3 p.from_port) (codes " " ∷ port3 p.to_port ∷ codes "] " ∷ lanes_text p.map ∷ []),
      length-concat (port3 p.to_port) (codes "] " ∷ lanes_text p.map ∷ []),
      length-concat (lanes_text p.map) [],
      length-port p.from_port,
      length-port p.to_port,
      lanes_length p.map,
      all,
    )

pub number_length : (guid port on_lane number : ℕ) → number < 2 ^ 32 → length (number_text guid port on_lane number) ≤ 36
unfolding number_text
number_length guid port on_lane number low =
    omega (
      arith,
      length-concat (hex16 guid) (codes " " ∷ port3 port ∷ codes " " ∷ two on_lane ∷ codes " " ∷ decimal number ∷ []),
      length-concat (port3 port) (codes " " ∷ two on_lane ∷ codes " " ∷ decimal number ∷ []),
      length-concat (two on_lane) (codes " " ∷ decimal number ∷ []),
      length-concat (decimal number) [],
      length-hex16 guid,
      length-port port,
      length-two on_lane,
      length-decimal-le 10 number (omega arith) (omega (arith, low)) (omega (arith, low)),
    )
