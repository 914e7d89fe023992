-- Worked examples.
use Rattle.std.proofs.Common.{◌≡◌, ℕ, ◌++◌, [], ◌∷◌, refl, arith, Some, None}
use Rattle.fab_model.specs.Topology.{lids_of}
use Rattle.fab_tables.specs.declared.end.End.TheVariants.{Delivered, NoEntry, DeadPort, Astray, Loop}
use Rattle.fab_tables.specs.declared.verdict.Verdict.TheVariants.{NotRising}
use Rattle.fab_tables.specs.Entries.{entry, with_entry, no_entries}
use Rattle.fab_tables.specs.LaneTables.{LaneTables, no_lanes, with_number, with_pair}
use Rattle.fab_tables.specs.Route.{route}
use Rattle.fab_tables.specs.VirtualChannels.{virtual_channel, virtual_channels}
use Rattle.fab_tables.specs.Dependencies.{IsPath}
use Rattle.fab_tables.specs.Verdicts.{IsFaultAt, IsHop}
use Rattle.fab_tables.specs.Plain.{plain_channels}
use Rattle.fab_tables.proofs.Examples.Fabrics.{l3, l3_entries, stub, stub_entries, one_lane_map, terminal}

lids_of_l3 : lids_of l3 ≡ 1 ∷ 2 ∷ 3 ∷ 4 ∷ []
lids_of_l3 = refl

-- from the first switch to the third
delivered : route l3 l3_entries 0 3 ≡ record { channels = 0 ∷ 2 ∷ []; end = Delivered }
delivered = refl

-- to the terminal
to_terminal : route l3 l3_entries 2 4 ≡ record { channels = 3 ∷ 1 ∷ []; end = Delivered }
to_terminal = refl

-- at home already
at_home : route l3 l3_entries 0 1 ≡ record { channels = []; end = Delivered }
at_home = refl

no_entry : route l3 (with_entry l3_entries 1 3 255) 0 3 ≡ record { channels = 0 ∷ []; end = NoEntry }
no_entry = refl

-- nothing is cabled to port 3 of the second switch
dead_port : route l3 (with_entry l3_entries 1 3 3) 0 3 ≡ record { channels = 0 ∷ []; end = DeadPort }
dead_port = refl

-- port 2 of the first switch leads to a terminal, and port 0 to the switch itself
astray_terminal : route l3 (with_entry l3_entries 0 3 2) 0 3 ≡ record { channels = []; end = Astray }
astray_terminal = refl

astray_switch : route l3 (with_entry l3_entries 1 3 0) 0 3 ≡ record { channels = 0 ∷ []; end = Astray }
astray_switch = refl

-- both switches send LID 3 to each other
loop : route stub (with_entry (with_entry stub_entries 0 3 1) 1 3 1) 0 3 ≡ record { channels = 0 ∷ 1 ∷ []; end = Loop }
loop = refl

-- an empty table
nothing : route stub (no_entries 2 (lids_of stub)) 0 1 ≡ record { channels = []; end = NoEntry }
nothing = refl

-- a LID that is not in use
not_in_use : entry l3_entries 0 9 ≡ 255
not_in_use = refl

-- one lane, level 0 at the first switch for every LID, and the numbers 1 and 1 along the way to the third switch
abbrev pub l3_lanes : LaneTables
l3_lanes = record {
  count = 1;
  switches = 3;
  channels = 4;
  in_use = 1 ∷ 2 ∷ 3 ∷ 4 ∷ [];
  levels = Some 0 ∷ None ∷ None ∷ Some 0 ∷ None ∷ None ∷ Some 0 ∷ None ∷ None ∷ Some 0 ∷ None ∷ None ∷ [];
  general = one_lane_map ++ one_lane_map ++ one_lane_map;
  pairs = [];
  numbers = (no_lanes 1 3 4 []).numbers;
}

abbrev pub with_numbers : ℕ → ℕ → LaneTables
with_numbers m n = with_number (with_number l3_lanes 0 0 m) 2 0 n

hops_to_3 : virtual_channels l3 l3_entries l3_lanes (terminal 4 0 2) 3 ≡ virtual_channel 0 0 ∷ virtual_channel 2 0 ∷ []
hops_to_3 = refl

plainly_the_same : plain_channels l3 l3_entries l3_lanes 0 3 ≡ virtual_channel 0 0 ∷ virtual_channel 2 0 ∷ []
plainly_the_same = refl

-- with a map of its own for what comes by port 1 and leaves by port 2 at the second switch
abbrev pub l3_pair : LaneTables
l3_pair = with_pair (record l3_lanes { count = 2 }) (record { switch = record { 0 = 1 }; from_port = 1; to_port = 2; map = 1 ∷ 15 ∷ 15 ∷ 15 ∷ 15 ∷ 15 ∷ 15 ∷ 15 ∷ 15 ∷ 15 ∷ 15 ∷ 15 ∷ 15 ∷ 15 ∷ 15 ∷ 15 ∷ [] })

hops_by_pair : virtual_channels l3 l3_entries l3_pair (terminal 4 0 2) 3 ≡ virtual_channel 0 0 ∷ virtual_channel 2 1 ∷ []
hops_by_pair = refl

-- the path from the terminal to the third switch
pub path_to_3 : IsPath l3 (terminal 4 0 2) 3
path_to_3 = record { terminal = (0, omega arith, refl); connected = (record { switch = record { 0 = 2 }; port = 0 }, refl, (2, (1, (_, (0, omega arith, refl), refl, refl), (2, (_, (2, omega arith, refl), refl, refl), refl)))) }

pub hop_0 : IsHop l3 l3_entries (with_numbers 1 1) 3 0 2 0 (virtual_channel 0 0)
hop_0 = record { terminal = terminal 4 0 2; path = path_to_3; of_source = refl; at_port = refl; at_hop = refl }

pub hop_1 : IsHop l3 l3_entries (with_numbers 1 1) 3 0 2 1 (virtual_channel 2 0)
hop_1 = record { terminal = terminal 4 0 2; path = path_to_3; of_source = refl; at_port = refl; at_hop = refl }

-- the second number is not above the first
pub not_rising : IsFaultAt l3 l3_entries (Some (with_numbers 1 1)) (1 ∷ 3 ∷ 0 ∷ 2 ∷ 1 ∷ 2 ∷ [])
    (NotRising (record { 0 = 3 }) (record { 0 = 0 }) (virtual_channel 0 0) (virtual_channel 2 0) 1 1)
not_rising = (with_numbers 1 1, refl, (2, 0, refl, hop_0, hop_1, refl, refl, omega arith))
