-- The lanes that bytes and words keep.
use Rattle.std.specs.Prelude.{map}
use Rattle.fab_tables.specs.declared.lanes.Lanes.TheInside.{Inside}
use Rattle.fab_tables.specs.LaneTables.{LaneTables}
use Rattle.fab_tables.specs.LevelBytes.{level_of_byte}

abbrev pub lane_tables : Inside → LaneTables
lane_tables l =
    record {
      count = l.count;
      switches = l.switches;
      channels = l.channels;
      in_use = l.columns;
      levels = map level_of_byte l.levels.items;
      general = l.general.items;
      pairs = l.pair_rows.items;
      numbers = l.numbers.items;
    }
