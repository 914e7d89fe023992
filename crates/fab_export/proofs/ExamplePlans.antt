-- Fabrics and plans for examples. STUB: two switches, with one terminal at the first. RING5: five switches in a ring, each with a terminal, and
-- a plan with two lanes.
use Rattle.std.proofs.Common.{ℕ, List, [], ◌∷◌, ◌++◌, Some, None, Option, codes}
use Rattle.std.specs.Prelude.{replicate, map}
use Rattle.fab_model.specs.declared.rows.SwitchRow.{SwitchRow}
use Rattle.fab_model.specs.declared.rows.TerminalRow.{TerminalRow}
use Rattle.fab_model.specs.Topology.{Topology, switch_id, lid_id}
use Rattle.fab_tables.specs.declared.plan.Plan.{Plan}
use Rattle.fab_tables.specs.Entries.{Entries}
use Rattle.fab_tables.specs.LaneTables.{LaneTables}
use Rattle.fab_tables.proofs.Examples.Fabrics.{channel, one_lane_map, stub_entries}
use Rattle.fab_tables.proofs.Examples.MoreFabrics.{ring5_entries}

abbrev switch : ℕ → ℕ → ℕ → List ℕ → SwitchRow
switch guid lid ports desc = record { guid = guid; lid = lid_id lid; ports = ports; desc = desc }

abbrev pub terminal : ℕ → ℕ → ℕ → ℕ → TerminalRow
terminal lid s port guid = record { lid = lid_id lid; switch = switch_id s; port = port; adapter = s; adapter_port = 1; port_guid = guid }

-- with this port GUID of its terminal
abbrev pub stub_with : ℕ → Topology
stub_with guid = record {
  switches = switch 0x10000 1 2 (codes "switch 0") ∷ switch 0x10001 2 1 (codes "switch 1") ∷ [];
  adapters = [];
  channels = channel 0 1 1 1 ∷ channel 1 1 0 1 ∷ [];
  terminals = terminal 3 0 2 guid ∷ [];
}

abbrev pub stub : Topology
stub = stub_with 0x20000

abbrev pub stub_lanes : LaneTables
stub_lanes = record {
  count = 1;
  switches = 2;
  channels = 2;
  in_use = 1 ∷ 2 ∷ 3 ∷ [];
  levels = Some 0 ∷ None ∷ Some 0 ∷ None ∷ Some 0 ∷ None ∷ [];
  general = one_lane_map ++ one_lane_map;
  pairs = [];
  numbers = 1 ∷ replicate 29 0;
}

abbrev pub with_lanes : Entries → LaneTables → Plan
with_lanes e l = record { tables = e; lanes = Some l }

abbrev pub stub_plan : Plan
stub_plan = with_lanes stub_entries stub_lanes

abbrev pub stub_dump : Plan
stub_dump = record { tables = stub_entries; lanes = None }

abbrev pub ring5 : Topology
ring5 = record {
  switches =
      switch 0x10000 1 3 (codes "switch 0") ∷ switch 0x10001 2 3 (codes "switch 1") ∷ switch 0x10002 3 3 (codes "switch 2")
      ∷ switch 0x10003 4 3 (codes "switch 3") ∷ switch 0x10004 5 3 (codes "switch 4") ∷ [];
  adapters = [];
  channels = channel 0 1 1 2 ∷ channel 0 2 4 1 ∷ channel 1 1 2 2 ∷ channel 1 2 0 1 ∷ channel 2 1 3 2 ∷ channel 2 2 1 1
      ∷ channel 3 1 4 2 ∷ channel 3 2 2 1 ∷ channel 4 1 0 2 ∷ channel 4 2 3 1 ∷ [];
  terminals = terminal 6 0 3 0x20000 ∷ terminal 7 1 3 0x20001 ∷ terminal 8 2 3 0x20002 ∷ terminal 9 3 3 0x20003 ∷ terminal 10 4 3 0x20004 ∷ [];
}

abbrev levels_with : List ℕ → List (Option ℕ)
levels_with levels = map (λ n. Some n) levels

abbrev two_lane_map : List ℕ
two_lane_map = 0 ∷ 1 ∷ replicate 14 15

abbrev pub ring5_lanes : LaneTables
ring5_lanes = record {
  count = 2;
  switches = 5;
  channels = 10;
  in_use = 1 ∷ 2 ∷ 3 ∷ 4 ∷ 5 ∷ 6 ∷ 7 ∷ 8 ∷ 9 ∷ 10 ∷ [];
  levels =
      levels_with (0 ∷ 0 ∷ 0 ∷ 0 ∷ 0 ∷ [])
      ++ levels_with (0 ∷ 0 ∷ 0 ∷ 0 ∷ 0 ∷ [])
      ++ levels_with (0 ∷ 0 ∷ 0 ∷ 0 ∷ 1 ∷ [])
      ++ levels_with (0 ∷ 0 ∷ 0 ∷ 0 ∷ 0 ∷ [])
      ++ levels_with (0 ∷ 0 ∷ 1 ∷ 0 ∷ 0 ∷ [])
      ++ levels_with (0 ∷ 0 ∷ 0 ∷ 0 ∷ 0 ∷ [])
      ++ levels_with (0 ∷ 0 ∷ 0 ∷ 0 ∷ 0 ∷ [])
      ++ levels_with (0 ∷ 0 ∷ 0 ∷ 0 ∷ 1 ∷ [])
      ++ levels_with (0 ∷ 0 ∷ 0 ∷ 0 ∷ 0 ∷ [])
      ++ levels_with (0 ∷ 0 ∷ 1 ∷ 0 ∷ 0 ∷ []);
  general = two_lane_map ++ two_lane_map ++ two_lane_map ++ two_lane_map ++ two_lane_map;
  pairs = [];
  numbers = replicate 150 0;
}

abbrev pub ring5_plan : Plan
ring5_plan = with_lanes ring5_entries ring5_lanes
