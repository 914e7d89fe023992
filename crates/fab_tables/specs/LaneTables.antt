-- Service levels, SL-to-VL maps and the numbers of the certificate.
use Rattle.std.specs.Prelude.{◌≡◌, ℕ, ◌+◌, ◌*◌, ◌^◌, ◌<◌, ◌≤◌, ◌==◌, nat_lt, List, [], ◌∷◌, ◌++◌, length, replicate, map, All, IfSome, Option, Some, None, if◌then◌else◌, slice_index_or, slice_set, filter, find, Bool, IsTrue, ◌⊎◌}
use Rattle.std.specs.List.{list_any}
use Rattle.std.specs.List.Sorted.{IsStrictlyIncreasing}
use Rattle.fab_tables.specs.declared.lanes.PairRow.{PairRow}
use Rattle.fab_tables.specs.Entries.{index_of, cell}

pub record LaneTables : Type 0 where
  pub count : ℕ  -- the lane count
  pub switches : ℕ
  pub channels : ℕ
  pub in_use : List ℕ  -- the LIDs in use, ascending
  pub levels : List (Option ℕ)  -- LID by LID, for each of those in use the service level of each switch
  pub general : List ℕ  -- switch by switch, the lane of each of the 16 levels
  pub pairs : List PairRow  -- the pairs of ports that have a map of their own, by (switch, from port, to port)
  pub numbers : List ℕ  -- channel by channel, the number of each of the 15 data lanes; 0 means none

-- The order of the pairs. Ports are below 256.
abbrev pub pair_key : PairRow → ℕ
pair_key p = p.switch.0 * 65536 + p.from_port * 256 + p.to_port

-- the row's numbers are within their ranges
pub record IsPairRow (switches : ℕ) (p : PairRow) : Type 0 where
  pub switch : p.switch.0 < switches
  pub from_port : p.from_port < 256
  pub to_port : p.to_port < 256
  pub levels : length p.map ≡ 16
  pub lanes : All (λ lane. lane < 16) p.map

-- what the type `Lanes` keeps
pub record AreLaneTables (l : LaneTables) : Type 0 where
  pub count : (0 < l.count) × (l.count ≤ 15)
  pub ascending : IsStrictlyIncreasing l.in_use
  pub all_levels : length l.levels ≡ length l.in_use * l.switches
  pub low_levels : All (λ level. IfSome level (λ n. n < 16)) l.levels
  pub all_general : length l.general ≡ l.switches * 16
  pub lanes : All (λ lane. lane < 16) l.general
  pub in_order : IsStrictlyIncreasing (map pair_key l.pairs)
  pub few_pairs : length l.pairs ≤ 65536
  pub pairs : All (IsPairRow l.switches) l.pairs
  pub all_numbers : length l.numbers ≡ l.channels * 15
  pub low_numbers : All (λ n. n < 2 ^ 32) l.numbers

abbrev pub level_in_column : LaneTables → ℕ → Option ℕ → Option ℕ
level_in_column l s None = None
level_in_column l s (Some i) = if nat_lt s l.switches then slice_index_or l.levels (cell l.switches i s) None else None

-- the service level of a switch for a LID, if it has one
abbrev pub level : LaneTables → ℕ → ℕ → Option ℕ
level l s lid = level_in_column l s (index_of lid l.in_use)

-- the lane of a level in the general map of a switch
abbrev pub lane : LaneTables → ℕ → ℕ → ℕ
lane l s of_level = slice_index_or l.general (cell 16 s of_level) 15

-- whether the row is the map of these ports
abbrev pub is_pair : ℕ → ℕ → ℕ → PairRow → Bool
is_pair s from to p = pair_key p == s * 65536 + from * 256 + to

abbrev pub lane_of_pair : Option PairRow → ℕ → ℕ → ℕ
lane_of_pair None of_level general = general
lane_of_pair (Some p) of_level general = slice_index_or p.map of_level 15

-- the lane of a level for a packet that comes by one port and leaves by another: by the pair's map where it has one, else by the general one
abbrev pub lane_at : LaneTables → ℕ → ℕ → ℕ → ℕ → ℕ
lane_at l s from to of_level = lane_of_pair (find (is_pair s from to) l.pairs) of_level (lane l s of_level)

-- the number of a channel's data lane; 0 means none
abbrev pub number : LaneTables → ℕ → ℕ → ℕ
number l channel of_lane = if nat_lt of_lane 15 then slice_index_or l.numbers (cell 15 channel of_lane) 0 else 0

-- no level, every lane 15, no pair, every number 0
abbrev pub no_lanes : ℕ → ℕ → ℕ → List ℕ → LaneTables
no_lanes count switches channels in_use =
    record {
      count = count;
      switches = switches;
      channels = channels;
      in_use = in_use;
      levels = replicate (length in_use * switches) None;
      general = replicate (switches * 16) 15;
      pairs = [];
      numbers = replicate (channels * 15) 0;
    }

abbrev pub with_level_in_column : LaneTables → ℕ → Option ℕ → Option ℕ → LaneTables
with_level_in_column l s new None = l
with_level_in_column l s new (Some i) = record l { levels = slice_set l.levels (cell l.switches i s) new }

abbrev pub with_level : LaneTables → ℕ → ℕ → Option ℕ → LaneTables
with_level l s lid new = with_level_in_column l s new (index_of lid l.in_use)

abbrev pub with_lane : LaneTables → ℕ → ℕ → ℕ → LaneTables
with_lane l s of_level new = record l { general = slice_set l.general (cell 16 s of_level) new }

abbrev pub with_number : LaneTables → ℕ → ℕ → ℕ → LaneTables
with_number l channel of_lane new = record l { numbers = slice_set l.numbers (cell 15 channel of_lane) new }

-- the rows with this one at its place, where it replaces one of the same ports
abbrev pub with_pair_row : List PairRow → PairRow → List PairRow
with_pair_row rows row =
    filter (λ p. nat_lt (pair_key p) (pair_key row)) rows ++ row ∷ filter (λ p. nat_lt (pair_key row) (pair_key p)) rows

abbrev pub with_pair : LaneTables → PairRow → LaneTables
with_pair l row = record l { pairs = with_pair_row l.pairs row }

-- the pair has a map, or there is room for one more
abbrev pub HasRoomFor : LaneTables → PairRow → Type 0
HasRoomFor l row = IsTrue (list_any (λ p. pair_key p == pair_key row) l.pairs) ⊎ (length l.pairs < 65536)

-- The maps that routing engines write: a level below the lane count goes on the lane of the same number, any other level on lane 15, and no pair of ports has a map of its own.
abbrev pub lane_of_level : ℕ → ℕ → ℕ
lane_of_level count of_level = if nat_lt of_level count then of_level else 15

pub record HasLanePerLevel (l : LaneTables) : Type 0 where
  pub general : (s of_level : ℕ) → s < l.switches → of_level < 16 → lane l s of_level ≡ lane_of_level l.count of_level
  pub no_pair : l.pairs ≡ []
