-- Refusals: STUB and its plan changed in one place each, a line of 65 switches, and a switch with 15 terminals.
use Rattle.std.proofs.Common.{◌≡◌, ℕ, ◌+◌, ◌-◌, List, [], ◌∷◌, ◌++◌, refl, Some, None}
use Rattle.std.specs.Prelude.{map, flat_map, replicate, nat_lt, ◌==◌, if◌then◌else◌}
use Rattle.std.specs.List.{range_with_len}
use Rattle.fab_model.specs.declared.rows.ChannelRow.{ChannelRow}
use Rattle.fab_model.specs.Topology.{Topology, switch_id, lid_id}
use Rattle.fab_tables.specs.declared.end.End.TheVariants.{NoEntry}
use Rattle.fab_tables.specs.declared.verdict.Verdict.TheVariants.{Routes, Lanes, Unreached}
use Rattle.fab_tables.specs.Entries.{Entries}
use Rattle.fab_tables.specs.LaneTables.{LaneTables, with_lane, with_level}
use Rattle.fab_tables.proofs.Examples.Fabrics.{channel, one_lane_map, stub_entries}
use Rattle.fab_export.specs.declared.part.Part.TheVariants.{Tables, Levels, Config}
use Rattle.fab_export.specs.declared.fault.Unfit.TheVariants.{Refused, NoPortGuid, TwicePortGuid, TooFar, PairMap, MapDiffers, HighLane, NoLevelZero, NoSpareLevel, NoLanes}
use Rattle.fab_export.specs.Unfits.{unfit_after, too_far_from}
use Rattle.fab_export.proofs.ExamplePlans.{stub, stub_with, stub_lanes, stub_plan, stub_dump, with_lanes, ring5, ring5_plan, terminal}

fit : unfit_after Lanes stub stub_plan Levels ≡ None
unfolding unfit_after
fit = refl

ring_fit : unfit_after Lanes ring5 ring5_plan Config ≡ None
unfolding unfit_after
ring_fit = refl

-- a plan without lanes has tables alone
dump_fit : unfit_after Routes stub stub_dump Tables ≡ None
unfolding unfit_after
dump_fit = refl

no_levels : unfit_after Routes stub stub_dump Levels ≡ Some NoLanes
unfolding unfit_after
no_levels = refl

-- the check comes first
refused_first : unfit_after (Unreached (lid_id 1) (switch_id 1) NoEntry) (stub_with 0) stub_dump Levels ≡ Some (Refused (Unreached (lid_id 1) (switch_id 1) NoEntry))
unfolding unfit_after
refused_first = refl

no_port_guid : unfit_after Lanes (stub_with 0) stub_plan Tables ≡ Some (NoPortGuid (lid_id 3))
unfolding unfit_after
no_port_guid = refl

-- the terminal's port has the GUID of the second switch
twice : unfit_after Lanes (stub_with 0x10001) stub_plan Tables ≡ Some (TwicePortGuid (lid_id 3) 0x10001)
unfolding unfit_after
twice = refl

-- a pair of ports has a map, though it is the general one
pair_map : unfit_after Lanes stub
    (with_lanes stub_entries (record stub_lanes { pairs = record { switch = switch_id 0; from_port = 2; to_port = 1; map = one_lane_map } ∷ [] })) Config
    ≡ Some (PairMap (switch_id 0) 2 1)
unfolding unfit_after
pair_map = refl

map_differs : unfit_after Lanes stub (with_lanes stub_entries (with_lane stub_lanes 1 1 0)) Config ≡ Some (MapDiffers (switch_id 1))
unfolding unfit_after
map_differs = refl

-- to its own switch's LID a terminal may have a level that is dropped
level_5 : unfit_after Lanes stub (with_lanes stub_entries (with_level stub_lanes 0 1 (Some 5))) Levels ≡ Some (HighLane 5 15 1)
unfolding unfit_after
level_5 = refl

abbrev second_level_lanes : List ℕ
second_level_lanes = 15 ∷ 0 ∷ replicate 14 15

no_level_0 : unfit_after Lanes stub
    (with_lanes stub_entries (record stub_lanes { levels = Some 1 ∷ None ∷ Some 1 ∷ None ∷ Some 1 ∷ None ∷ []; general = second_level_lanes ++ second_level_lanes })) Levels
    ≡ Some NoLevelZero
unfolding unfit_after
no_level_0 = refl

-- ---- a line of 65 switches, with a terminal at the first

abbrev up : ℕ → ChannelRow
up s = channel s 2 (s + 1) 1

abbrev down : ℕ → ChannelRow
down s = channel s 1 (s - 1) 2

abbrev line : Topology
line = record {
  switches = map (λ (s : ℕ). record { guid = s + 16; lid = lid_id (s + 1); ports = 3; desc = [] }) (range_with_len 0 65);
  adapters = [];
  channels = up 0 ∷ flat_map (λ (s : ℕ). down s ∷ up s ∷ []) (range_with_len 1 63) ++ down 64 ∷ [];
  terminals = terminal 66 0 3 256 ∷ [];
}

abbrev line_port : ℕ → ℕ → ℕ
line_port s lid = if lid == 66 then (if s == 0 then 3 else 1) else if nat_lt lid (s + 1) then 1 else if lid == s + 1 then 0 else 2

abbrev line_entries : Entries
line_entries = record { switches = 65; in_use = range_with_len 1 66; ports = flat_map (λ (lid : ℕ). map (λ (s : ℕ). line_port s lid) (range_with_len 0 65)) (range_with_len 1 66) }

near : too_far_from line line_entries 64 ≡ None
near = refl

far : too_far_from line line_entries 65 ≡ Some (TooFar (lid_id 65) (switch_id 0))
far = refl

-- ---- a switch with 15 terminals, and a level for each LID

abbrev star : Topology
star = record {
  switches = record { guid = 16; lid = lid_id 1; ports = 15; desc = [] } ∷ [];
  adapters = [];
  channels = [];
  terminals = map (λ (n : ℕ). terminal (n + 1) 0 n (n + 16)) (range_with_len 1 15);
}

abbrev star_entries : Entries
star_entries = record { switches = 1; in_use = range_with_len 1 16; ports = range_with_len 0 16 }

abbrev star_lanes : LaneTables
star_lanes = record {
  count = 1;
  switches = 1;
  channels = 0;
  in_use = range_with_len 1 16;
  levels = map (λ (n : ℕ). Some n) (range_with_len 0 16);
  general = replicate 16 0;
  pairs = [];
  numbers = [];
}

no_spare_level : unfit_after Lanes star (with_lanes star_entries star_lanes) Tables ≡ Some NoSpareLevel
unfolding unfit_after
no_spare_level = refl
