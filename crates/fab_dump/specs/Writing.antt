-- The text of a plan.
use Rattle.std.specs.Prelude.{◌≡◌, ℕ, ◌-◌, ◌*◌, ◌≤◌, Bool, List, [], ◌∷◌, ◌++◌, length, take, drop, map, filter, Option, Some, None, option_map, Result, Ok, Err, ◌==◌, if◌then◌else◌, codes, decimal, flat_map, slice_index}
use Rattle.std.specs.Int.{div_ceil}
use Rattle.std.specs.List.{concat, enumerate_from, range_with_len, join_with_byte}
use Rattle.fab_io.specs.Faults.{Rose}
use Rattle.fab_io.specs.Sink.{AppendsPrefix}
use Rattle.fab_text.specs.Digits.{last_digits}
use Rattle.fab_model.specs.declared.rows.SwitchRow.{SwitchRow}
use Rattle.fab_model.specs.declared.rows.ChannelRow.{ChannelRow}
use Rattle.fab_model.specs.Topology.{Topology, lids_of, is_source, guid_of}
use Rattle.fab_tables.specs.declared.plan.Plan.{Plan}
use Rattle.fab_tables.specs.declared.lanes.PairRow.{PairRow}
use Rattle.fab_tables.specs.Entries.{Entries, entry}
use Rattle.fab_tables.specs.LaneTables.{LaneTables, level, lane, number}
use Rattle.fab_dump.specs.declared.write.WriteFault.{WriteFault}
use Rattle.fab_dump.specs.declared.write.WriteFault.TheVariants.{Failed, Memory}
use Rattle.fab_dump.specs.Lines.{levels_head, map_head}

-- ---- numbers as they stand in the text
unfoldable pub hex4 : ℕ → List ℕ
hex4 n = codes "0x" ++ last_digits 16 4 n

unfoldable pub hex16 : ℕ → List ℕ
hex16 n = codes "0x" ++ last_digits 16 16 n

unfoldable pub port3 : ℕ → List ℕ
port3 n = last_digits 10 3 n

unfoldable pub two : ℕ → List ℕ
two n = last_digits 10 2 n

abbrev pub level2 : Option ℕ → List ℕ
level2 None = codes "--"
level2 (Some n) = two n

-- each line ends with a line feed
abbrev pub lines_text : List (List ℕ) → List ℕ
lines_text lines = flat_map (λ line. line ++ 10 ∷ []) lines

-- words, and a GUID with a colon
unfoldable pub guid_head_text : List ℕ → ℕ → List ℕ
guid_head_text words guid = concat (words ∷ hex16 guid ∷ codes ":" ∷ [])

-- ---- rows of LIDs

-- the LIDs of a row of a block, by its number: 64, and the rest in the last row
abbrev pub row_of : List ℕ → ℕ → List ℕ
row_of lids number = take 64 (drop (number * 64) lids)

-- a row: its first LID, and then the values of all, each after a space
unfoldable pub row_text : (ℕ → List ℕ) → List ℕ → List ℕ
row_text value lids = hex4 (slice_index lids 0) ++ flat_map (λ lid. 32 ∷ value lid) lids

abbrev pub numbered_row : Topology → (ℕ → List ℕ) → ℕ → List ℕ
numbered_row t value number = row_text value (row_of (lids_of t) number)

abbrev pub block_rows : Topology → (ℕ → List ℕ) → List (List ℕ)
block_rows t value = map (numbered_row t value) (range_with_len 0 (div_ceil (length (lids_of t)) 64))

-- ---- table blocks

-- from the least to the greatest LID in use
unfoldable pub lids_text : List ℕ → List ℕ
lids_text lids = concat (codes "Unicast lids [" ∷ hex4 (slice_index lids 0) ∷ codes "-" ∷ hex4 (slice_index lids (length lids - 1)) ∷ codes "] of switch " ∷ [])

unfoldable pub switch_text : SwitchRow → List ℕ
switch_text row = concat (codes "Lid " ∷ decimal row.lid.0 ∷ codes " guid " ∷ hex16 row.guid ∷ codes " (" ∷ row.desc ∷ codes "):" ∷ [])

unfoldable pub table_head_text : List ℕ → SwitchRow → List ℕ
table_head_text lids row = lids_text lids ++ switch_text row

abbrev pub table_block : Topology → Entries → ℕ × SwitchRow → List (List ℕ)
table_block t e s = table_head_text (lids_of t) s.1 ∷ block_rows t (λ lid. port3 (entry e s.0 lid))

-- ---- levels blocks, which sources alone have

abbrev pub levels_block : Topology → LaneTables → ℕ × SwitchRow → List (List ℕ)
levels_block t l s = if is_source t s.0 then guid_head_text levels_head s.1.guid ∷ block_rows t (λ lid. level2 (level l s.0 lid)) else []

-- ---- lane maps, each with the rows of the pairs of ports that have a map of their own

-- the lane of each level, by a switch's general map
unfoldable pub general_map : LaneTables → ℕ → List ℕ
general_map l s = map (λ of_level. lane l s of_level) (range_with_len 0 16)

unfoldable pub lanes_text : List ℕ → List ℕ
lanes_text lanes = join_with_byte 32 (map two lanes)

unfoldable pub pair_text : PairRow → List ℕ
pair_text p = concat (codes "[" ∷ port3 p.from_port ∷ codes " " ∷ port3 p.to_port ∷ codes "] " ∷ lanes_text p.map ∷ [])

abbrev pub is_of_switch : ℕ → PairRow → Bool
is_of_switch s p = p.switch.0 == s

abbrev pub pair_rows : List PairRow → ℕ → List (List ℕ)
pair_rows pairs s = map pair_text (filter (is_of_switch s) pairs)

abbrev pub general_block : LaneTables → ℕ → ℕ → List (List ℕ)
general_block l s guid = guid_head_text map_head guid ∷ lanes_text (general_map l s) ∷ []

abbrev pub map_block : LaneTables → ℕ × SwitchRow → List (List ℕ)
map_block l s = general_block l s.0 s.1.guid ++ pair_rows l.pairs s.0

-- ---- the certificate: a row for each number

unfoldable pub number_text : ℕ → ℕ → ℕ → ℕ → List ℕ
number_text guid port on_lane number = concat (hex16 guid ∷ codes " " ∷ port3 port ∷ codes " " ∷ two on_lane ∷ codes " " ∷ decimal number ∷ [])

abbrev pub number_row : ℕ → ℕ → ℕ → ℕ → List (List ℕ)
number_row guid port on_lane number = if number == 0 then [] else number_text guid port on_lane number ∷ []

abbrev pub number_line : Topology → LaneTables → ℕ × ChannelRow → ℕ → List (List ℕ)
number_line t l c on_lane = number_row (guid_of t c.1.tail.0) c.1.port on_lane (number l c.0 on_lane)

abbrev pub number_lines : Topology → LaneTables → ℕ × ChannelRow → List (List ℕ)
number_lines t l c = flat_map (number_line t l c) (range_with_len 0 15)

abbrev pub lane_lines : Topology → LaneTables → List (List ℕ)
lane_lines t l =
    flat_map (levels_block t l) (enumerate_from 0 t.switches)
    ++ flat_map (map_block l) (enumerate_from 0 t.switches)
    ++ codes "Certificate:" ∷ flat_map (number_lines t l) (enumerate_from 0 t.channels)

-- ---- the whole

-- version 3 where a pair of ports has a map, else version 2
abbrev pub version_of : Option LaneTables → ℕ
version_of None = 2
version_of (Some l) = if length l.pairs == 0 then 2 else 3

unfoldable pub version_text : Option LaneTables → List ℕ
version_text lanes = codes "fabroute plan " ++ decimal (version_of lanes)

abbrev pub count_text : Option LaneTables → List ℕ
count_text None = codes "none"
count_text (Some l) = decimal l.count

unfoldable pub lanes_line : Option LaneTables → List ℕ
lanes_line lanes = codes "lanes " ++ count_text lanes

abbrev pub lane_part : Topology → Option LaneTables → List (List ℕ)
lane_part t None = []
lane_part t (Some l) = lane_lines t l

abbrev pub plan_lines : Topology → Plan → List (List ℕ)
plan_lines t p =
    version_text p.lanes ∷ lanes_line p.lanes
    ∷ flat_map (table_block t p.tables) (enumerate_from 0 t.switches) ++ lane_part t p.lanes ++ codes "end plan" ∷ []

abbrev pub plan_text : Topology → Plan → List ℕ
plan_text t p = lines_text (plan_lines t p)

-- what a sink that tells its bytes has after a write: all of the text, or a prefix of it where the write failed
abbrev pub Writes : List ℕ → Option (List ℕ) → Option (List ℕ) → Result (Unit {0}) WriteFault → Type 0
Writes text before now (Ok done) = now ≡ option_map (λ bytes. bytes ++ text) before
Writes text before now (Err fault) = AppendsPrefix text before now

-- only a failed write touches the count of faults, and it raised it
abbrev pub CountsWrite : ℕ → ℕ → Result (Unit {0}) WriteFault → Type 0
CountsWrite before now (Ok done) = now ≡ before
CountsWrite before now (Err Failed) = Rose before now
CountsWrite before now (Err (Memory refused)) = now ≡ before

-- a part of a text was put: what the sink tells, and what its count of faults was and is
pub record PutsText (text : List ℕ) (before now : Option (List ℕ)) (count counted : ℕ) (outcome : Result (Unit {0}) WriteFault) : Type 0 where
  pub written : Writes text before now outcome
  pub cause : CountsWrite count counted outcome
  pub none_fell : count ≤ counted
