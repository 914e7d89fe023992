-- All that the text of a plan says, statement by statement.
use Rattle.std.specs.Prelude.{ℕ, List, [], ◌∷◌, ◌++◌, map, filter, Option, Some, None, ◌==◌, if◌then◌else◌, flat_map}
use Rattle.std.specs.List.{enumerate_from, range_with_len}
use Rattle.fab_model.specs.declared.rows.SwitchRow.{SwitchRow}
use Rattle.fab_model.specs.declared.rows.ChannelRow.{ChannelRow}
use Rattle.fab_model.specs.Topology.{Topology, lids_of, is_source}
use Rattle.fab_tables.specs.declared.plan.Plan.{Plan}
use Rattle.fab_tables.specs.Entries.{Entries, entry}
use Rattle.fab_tables.specs.LaneTables.{LaneTables, level, number}
use Rattle.fab_dump.specs.Given.{Given}
use Rattle.fab_dump.specs.Given.Given.{TableBlock, Port, LevelBlock, Level, MapBlock, Map, PairMap, Certificate, Number}
use Rattle.fab_dump.specs.Writing.{general_map, is_of_switch}

abbrev pub port_of : Entries → ℕ → ℕ → Given
port_of e k lid = Port k lid (entry e k lid)

abbrev pub table_said : Topology → Entries → ℕ × SwitchRow → List Given
table_said t e s = TableBlock s.0 ∷ map (port_of e s.0) (lids_of t)

abbrev pub level_of : LaneTables → ℕ → ℕ → Given
level_of l k lid = Level k lid (level l k lid)

abbrev pub levels_block_said : Topology → LaneTables → ℕ × SwitchRow → List Given
levels_block_said t l s = if is_source t s.0 then LevelBlock s.0 ∷ map (level_of l s.0) (lids_of t) else []

abbrev pub map_block_said : LaneTables → ℕ × SwitchRow → List Given
map_block_said l s = MapBlock s.0 ∷ Map s.0 (general_map l s.0) ∷ map PairMap (filter (is_of_switch s.0) l.pairs)

abbrev pub number_of : LaneTables → ℕ → ℕ → List Given
number_of l c on_lane = if number l c on_lane == 0 then [] else Number c on_lane (number l c on_lane) ∷ []

abbrev pub numbers_said : LaneTables → ℕ × ChannelRow → List Given
numbers_said l c = flat_map (number_of l c.0) (range_with_len 0 15)

-- the four parts
abbrev pub all_tables : Topology → Entries → List Given
all_tables t e = flat_map (table_said t e) (enumerate_from 0 t.switches)

abbrev pub all_levels : Topology → LaneTables → List Given
all_levels t l = flat_map (levels_block_said t l) (enumerate_from 0 t.switches)

abbrev pub all_maps : Topology → LaneTables → List Given
all_maps t l = flat_map (map_block_said l) (enumerate_from 0 t.switches)

abbrev pub all_numbers : Topology → LaneTables → List Given
all_numbers t l = flat_map (numbers_said l) (enumerate_from 0 t.channels)

abbrev pub lanes_said : Topology → LaneTables → List Given
lanes_said t l = all_levels t l ++ all_maps t l ++ Certificate ∷ all_numbers t l

abbrev pub lane_part_said : Topology → Option LaneTables → List Given
lane_part_said t None = []
lane_part_said t (Some l) = lanes_said t l

-- the whole
abbrev pub said : Topology → Plan → List Given
said t p = all_tables t p.tables ++ lane_part_said t p.lanes
