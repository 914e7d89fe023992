-- Loads of RING5 and STUB: the load of LASH on two lanes drains with 24 moves, and that of Min Hop waits in a ring.
use Rattle.std.proofs.Common.{◌≡◌, ℕ, zero, suc, List, [], ◌∷◌, refl}
use Rattle.std.specs.Prelude.{Bool, true, false, Option, Some, None, map, filter_map, find, replicate, length}
use Rattle.std.specs.List.{range_with_len}
use Rattle.std.specs.Option.{option_and_then}
use Rattle.fab_model.specs.Topology.{Topology}
use Rattle.fab_tables.specs.declared.plan.Plan.{Plan}
use Rattle.fab_tables.specs.declared.verdict.VirtualChannel.{VirtualChannel}
use Rattle.fab_tables.specs.Entries.{Entries}
use Rattle.fab_tables.specs.LaneTables.{LaneTables}
use Rattle.fab_tables.specs.VirtualChannels.{virtual_channel}
use Rattle.fab_tables.proofs.Examples.Fabrics.{stub}
use Rattle.fab_tables.proofs.Examples.MoreFabrics.{ring5}
use Rattle.fab_drain.specs.declared.packet.Moved.{Moved}
use Rattle.fab_drain.specs.declared.packet.Moved.TheVariants.{Went, Left, Waits, Nothing}
use Rattle.fab_drain.specs.declared.packet.Put.TheVariants.{Placed, Taken}
use Rattle.fab_drain.specs.Loads.{Loaded, Load, channel_of_cell, loaded_at, emptied, packet_count, hops_left, stand_of, next_of}
use Rattle.fab_drain.specs.Moves.{advanced, put_in}

abbrev pub lash_entries : Entries
lash_entries = record { switches = 5; in_use = 1 ∷ 2 ∷ 3 ∷ 4 ∷ 5 ∷ 6 ∷ 7 ∷ 8 ∷ 9 ∷ 10 ∷ []; ports = 0 ∷ 2 ∷ 2 ∷ 1 ∷ 1 ∷ 1 ∷ 0 ∷ 2 ∷ 2 ∷ 1 ∷ 1 ∷ 1 ∷ 0 ∷ 2 ∷ 2 ∷ 2 ∷ 1 ∷ 1 ∷ 0 ∷ 2 ∷ 2 ∷ 2 ∷ 1 ∷ 1 ∷ 0 ∷ 3 ∷ 2 ∷ 2 ∷ 1 ∷ 1 ∷ 1 ∷ 3 ∷ 2 ∷ 2 ∷ 1 ∷ 1 ∷ 1 ∷ 3 ∷ 2 ∷ 2 ∷ 2 ∷ 1 ∷ 1 ∷ 3 ∷ 2 ∷ 2 ∷ 2 ∷ 1 ∷ 1 ∷ 3 ∷ [] }

abbrev pub lash_lanes : LaneTables
lash_lanes = record {
  count = 2;
  switches = 5;
  channels = 10;
  in_use = 1 ∷ 2 ∷ 3 ∷ 4 ∷ 5 ∷ 6 ∷ 7 ∷ 8 ∷ 9 ∷ 10 ∷ [];
  levels = Some 0 ∷ Some 0 ∷ Some 0 ∷ Some 0 ∷ Some 0 ∷ Some 0 ∷ Some 0 ∷ Some 0 ∷ Some 0 ∷ Some 0 ∷ Some 0 ∷ Some 0 ∷ Some 0 ∷ Some 0 ∷ Some 1 ∷ Some 0 ∷ Some 0 ∷ Some 0 ∷ Some 0 ∷ Some 0 ∷ Some 0 ∷ Some 0 ∷ Some 1 ∷ Some 0 ∷ Some 0 ∷ Some 0 ∷ Some 0 ∷ Some 0 ∷ Some 0 ∷ Some 0 ∷ Some 0 ∷ Some 0 ∷ Some 0 ∷ Some 0 ∷ Some 0 ∷ Some 0 ∷ Some 0 ∷ Some 0 ∷ Some 0 ∷ Some 1 ∷ Some 0 ∷ Some 0 ∷ Some 0 ∷ Some 0 ∷ Some 0 ∷ Some 0 ∷ Some 0 ∷ Some 1 ∷ Some 0 ∷ Some 0 ∷ [];
  general = 0 ∷ 1 ∷ 15 ∷ 15 ∷ 15 ∷ 15 ∷ 15 ∷ 15 ∷ 15 ∷ 15 ∷ 15 ∷ 15 ∷ 15 ∷ 15 ∷ 15 ∷ 15 ∷ 0 ∷ 1 ∷ 15 ∷ 15 ∷ 15 ∷ 15 ∷ 15 ∷ 15 ∷ 15 ∷ 15 ∷ 15 ∷ 15 ∷ 15 ∷ 15 ∷ 15 ∷ 15 ∷ 0 ∷ 1 ∷ 15 ∷ 15 ∷ 15 ∷ 15 ∷ 15 ∷ 15 ∷ 15 ∷ 15 ∷ 15 ∷ 15 ∷ 15 ∷ 15 ∷ 15 ∷ 15 ∷ 0 ∷ 1 ∷ 15 ∷ 15 ∷ 15 ∷ 15 ∷ 15 ∷ 15 ∷ 15 ∷ 15 ∷ 15 ∷ 15 ∷ 15 ∷ 15 ∷ 15 ∷ 15 ∷ 0 ∷ 1 ∷ 15 ∷ 15 ∷ 15 ∷ 15 ∷ 15 ∷ 15 ∷ 15 ∷ 15 ∷ 15 ∷ 15 ∷ 15 ∷ 15 ∷ 15 ∷ 15 ∷ [];
  pairs = [];
  numbers = 3 ∷ 0 ∷ 0 ∷ 0 ∷ 0 ∷ 0 ∷ 0 ∷ 0 ∷ 0 ∷ 0 ∷ 0 ∷ 0 ∷ 0 ∷ 0 ∷ 0 ∷ 4 ∷ 0 ∷ 0 ∷ 0 ∷ 0 ∷ 0 ∷ 0 ∷ 0 ∷ 0 ∷ 0 ∷ 0 ∷ 0 ∷ 0 ∷ 0 ∷ 0 ∷ 4 ∷ 0 ∷ 0 ∷ 0 ∷ 0 ∷ 0 ∷ 0 ∷ 0 ∷ 0 ∷ 0 ∷ 0 ∷ 0 ∷ 0 ∷ 0 ∷ 0 ∷ 3 ∷ 0 ∷ 0 ∷ 0 ∷ 0 ∷ 0 ∷ 0 ∷ 0 ∷ 0 ∷ 0 ∷ 0 ∷ 0 ∷ 0 ∷ 0 ∷ 0 ∷ 5 ∷ 1 ∷ 0 ∷ 0 ∷ 0 ∷ 0 ∷ 0 ∷ 0 ∷ 0 ∷ 0 ∷ 0 ∷ 0 ∷ 0 ∷ 0 ∷ 0 ∷ 2 ∷ 0 ∷ 0 ∷ 0 ∷ 0 ∷ 0 ∷ 0 ∷ 0 ∷ 0 ∷ 0 ∷ 0 ∷ 0 ∷ 0 ∷ 0 ∷ 0 ∷ 1 ∷ 2 ∷ 0 ∷ 0 ∷ 0 ∷ 0 ∷ 0 ∷ 0 ∷ 0 ∷ 0 ∷ 0 ∷ 0 ∷ 0 ∷ 0 ∷ 0 ∷ 1 ∷ 2 ∷ 0 ∷ 0 ∷ 0 ∷ 0 ∷ 0 ∷ 0 ∷ 0 ∷ 0 ∷ 0 ∷ 0 ∷ 0 ∷ 0 ∷ 0 ∷ 2 ∷ 0 ∷ 0 ∷ 0 ∷ 0 ∷ 0 ∷ 0 ∷ 0 ∷ 0 ∷ 0 ∷ 0 ∷ 0 ∷ 0 ∷ 0 ∷ 0 ∷ 5 ∷ 1 ∷ 0 ∷ 0 ∷ 0 ∷ 0 ∷ 0 ∷ 0 ∷ 0 ∷ 0 ∷ 0 ∷ 0 ∷ 0 ∷ 0 ∷ 0 ∷ [];
}

abbrev pub lash : Plan
lash = record { tables = lash_entries; lanes = Some lash_lanes }

abbrev pub min_hop_entries : Entries
min_hop_entries = record { switches = 5; in_use = 1 ∷ 2 ∷ 3 ∷ 4 ∷ 5 ∷ 6 ∷ 7 ∷ 8 ∷ 9 ∷ 10 ∷ []; ports = 0 ∷ 2 ∷ 2 ∷ 1 ∷ 1 ∷ 1 ∷ 0 ∷ 2 ∷ 2 ∷ 1 ∷ 1 ∷ 1 ∷ 0 ∷ 2 ∷ 2 ∷ 2 ∷ 1 ∷ 1 ∷ 0 ∷ 2 ∷ 2 ∷ 2 ∷ 1 ∷ 1 ∷ 0 ∷ 3 ∷ 2 ∷ 2 ∷ 1 ∷ 1 ∷ 1 ∷ 3 ∷ 2 ∷ 2 ∷ 1 ∷ 1 ∷ 1 ∷ 3 ∷ 2 ∷ 2 ∷ 2 ∷ 1 ∷ 1 ∷ 3 ∷ 2 ∷ 2 ∷ 2 ∷ 1 ∷ 1 ∷ 3 ∷ [] }

abbrev pub min_hop : Plan
min_hop = record { tables = min_hop_entries; lanes = None }

abbrev pub nue_entries : Entries
nue_entries = record { switches = 2; in_use = 1 ∷ 2 ∷ 3 ∷ []; ports = 0 ∷ 1 ∷ 1 ∷ 0 ∷ 2 ∷ 1 ∷ [] }

abbrev pub nue_lanes : LaneTables
nue_lanes = record {
  count = 1;
  switches = 2;
  channels = 2;
  in_use = 1 ∷ 2 ∷ 3 ∷ [];
  levels = Some 0 ∷ None ∷ Some 0 ∷ None ∷ Some 0 ∷ None ∷ [];
  general = 0 ∷ 15 ∷ 15 ∷ 15 ∷ 15 ∷ 15 ∷ 15 ∷ 15 ∷ 15 ∷ 15 ∷ 15 ∷ 15 ∷ 15 ∷ 15 ∷ 15 ∷ 15 ∷ 0 ∷ 15 ∷ 15 ∷ 15 ∷ 15 ∷ 15 ∷ 15 ∷ 15 ∷ 15 ∷ 15 ∷ 15 ∷ 15 ∷ 15 ∷ 15 ∷ 15 ∷ 15 ∷ [];
  pairs = [];
  numbers = 1 ∷ 0 ∷ 0 ∷ 0 ∷ 0 ∷ 0 ∷ 0 ∷ 0 ∷ 0 ∷ 0 ∷ 0 ∷ 0 ∷ 0 ∷ 0 ∷ 0 ∷ 0 ∷ 0 ∷ 0 ∷ 0 ∷ 0 ∷ 0 ∷ 0 ∷ 0 ∷ 0 ∷ 0 ∷ 0 ∷ 0 ∷ 0 ∷ 0 ∷ 0 ∷ [];
}

abbrev pub nue : Plan
nue = record { tables = nue_entries; lanes = Some nue_lanes }

abbrev loaded : ℕ → ℕ → ℕ → ℕ → Loaded
loaded terminal lid position remaining =
    record { packet = record { terminal = record { 0 = terminal }; lid = record { 0 = lid }; position = position }; remaining = remaining }

abbrev lash_load : Load
lash_load = record { count = 2; cells = Some (loaded 0 3 0 2) ∷ None ∷ Some (loaded 0 4 0 2) ∷ None ∷ Some (loaded 1 4 0 2) ∷ None ∷ Some (loaded 1 5 0 2) ∷ None ∷ Some (loaded 1 4 1 1) ∷ Some (loaded 2 5 0 2) ∷ Some (loaded 2 1 0 2) ∷ None ∷ Some (loaded 3 1 0 2) ∷ Some (loaded 2 5 1 1) ∷ Some (loaded 3 2 0 2) ∷ Some (loaded 4 3 1 1) ∷ Some (loaded 4 2 0 2) ∷ None ∷ Some (loaded 0 4 1 1) ∷ Some (loaded 4 3 0 2) ∷ [] }

abbrev min_hop_load : Load
min_hop_load = record { count = 1; cells = Some (loaded 0 3 0 2) ∷ Some (loaded 0 4 0 2) ∷ Some (loaded 1 4 0 2) ∷ Some (loaded 1 5 0 2) ∷ Some (loaded 2 5 0 2) ∷ Some (loaded 2 1 0 2) ∷ Some (loaded 3 1 0 2) ∷ Some (loaded 3 2 0 2) ∷ Some (loaded 4 2 0 2) ∷ Some (loaded 4 3 0 2) ∷ [] }

abbrev stub_load : Load
stub_load = record { count = 1; cells = Some (loaded 0 2 0 1) ∷ None ∷ [] }

-- the least packet that may move, found by looking at each
is_move : Moved → Bool
is_move Went = true
is_move Left = true
is_move Waits = false
is_move Nothing = false

abbrev first_mover : Topology → Plan → Load → Option VirtualChannel
first_mover t p load =
    find (λ v. is_move (advanced t p load v).0) (map (channel_of_cell load.count) (range_with_len 0 (length load.cells)))

abbrev after_first : Topology → Plan → Load → Option VirtualChannel → Load
after_first t p load None = load
after_first t p load (Some v) = (advanced t p load v).1

abbrev run : Topology → Plan → ℕ → Load → Load
run t p zero load = load
run t p (suc n) load = run t p n (after_first t p load (first_mover t p load))

-- each packet stands on its own virtual channel
abbrev stands : Topology → Plan → Load → List VirtualChannel
stands t p load = filter_map (λ cell. option_and_then (λ (one : Loaded). stand_of t p one.packet) cell) load.cells

lash_stands : stands ring5 lash lash_load ≡ virtual_channel 0 0 ∷ virtual_channel 1 0 ∷ virtual_channel 2 0 ∷ virtual_channel 3 0 ∷ virtual_channel 4 0 ∷ virtual_channel 4 1 ∷ virtual_channel 5 0 ∷ virtual_channel 6 0 ∷ virtual_channel 6 1 ∷ virtual_channel 7 0 ∷ virtual_channel 7 1 ∷ virtual_channel 8 0 ∷ virtual_channel 9 0 ∷ virtual_channel 9 1 ∷ []
lash_stands = refl

lash_packets : packet_count lash_load ≡ 14
lash_packets = refl

lash_hops : hops_left lash_load ≡ 24
lash_hops = refl

min_hop_stands : stands ring5 min_hop min_hop_load ≡ virtual_channel 0 0 ∷ virtual_channel 1 0 ∷ virtual_channel 2 0 ∷ virtual_channel 3 0 ∷ virtual_channel 4 0 ∷ virtual_channel 5 0 ∷ virtual_channel 6 0 ∷ virtual_channel 7 0 ∷ virtual_channel 8 0 ∷ virtual_channel 9 0 ∷ []
min_hop_stands = refl

min_hop_packets : packet_count min_hop_load ≡ 10
min_hop_packets = refl

min_hop_hops : hops_left min_hop_load ≡ 20
min_hop_hops = refl

stub_stands : stands stub nue stub_load ≡ virtual_channel 0 0 ∷ []
stub_stands = refl

stub_packets : packet_count stub_load ≡ 1
stub_packets = refl

stub_hops : hops_left stub_load ≡ 1
stub_hops = refl

lash_drains : run ring5 lash 24 lash_load ≡ emptied lash_load
unfolding is_move
lash_drains = refl

-- not sooner
lash_moves : packet_count (run ring5 lash 23 lash_load) ≡ 1
unfolding is_move
lash_moves = refl

stub_drains : advanced stub nue stub_load (virtual_channel 0 0) ≡ (Left, emptied stub_load)
stub_drains = refl

nothing_there : (advanced stub nue stub_load (virtual_channel 1 0)).0 ≡ Nothing
nothing_there = refl

no_such_lane : (advanced stub nue stub_load (virtual_channel 0 1)).0 ≡ Nothing
no_such_lane = refl

put_again : put_in stub nue (emptied stub_load) (record { terminal = record { 0 = 0 }; lid = record { 0 = 2 }; position = 0 }) ≡ (Placed, stub_load)
put_again = refl

put_twice : (put_in stub nue stub_load (record { terminal = record { 0 = 0 }; lid = record { 0 = 2 }; position = 0 })).0 ≡ Taken
put_twice = refl

all_wait : map (λ v. (advanced ring5 min_hop min_hop_load v).0) (virtual_channel 0 0 ∷ virtual_channel 1 0 ∷ virtual_channel 2 0 ∷ virtual_channel 3 0 ∷ virtual_channel 4 0 ∷ virtual_channel 5 0 ∷ virtual_channel 6 0 ∷ virtual_channel 7 0 ∷ virtual_channel 8 0 ∷ virtual_channel 9 0 ∷ []) ≡ replicate 10 Waits
all_wait = refl

ring : filter_map (λ v. option_and_then (λ (one : Loaded). next_of ring5 min_hop one.packet) (loaded_at min_hop_load v)) (virtual_channel 0 0 ∷ virtual_channel 2 0 ∷ virtual_channel 4 0 ∷ virtual_channel 6 0 ∷ virtual_channel 8 0 ∷ []) ≡ virtual_channel 2 0 ∷ virtual_channel 4 0 ∷ virtual_channel 6 0 ∷ virtual_channel 8 0 ∷ virtual_channel 0 0 ∷ []
ring = refl
