-- A change on a ring of three switches with a terminal each: both plans are good alone, but for LID 1 the old one sends switch 1 round by
-- switch 2, and the new one sends switch 2 round by switch 1. Packets that meet both go in a ring.
use Rattle.std.proofs.Common.{◌≡◌, ℕ, List, [], ◌∷◌, refl, arith, None}
use Rattle.fab_graph.specs.Walks.{IsOnClosedWalk}
use Rattle.fab_model.specs.Topology.{Topology}
use Rattle.fab_tables.specs.declared.end.End.TheVariants.{Delivered}
use Rattle.fab_tables.specs.Entries.{Entries}
use Rattle.fab_tables.specs.Route.{route, Along, Stop}
use Rattle.fab_tables.specs.VirtualChannels.{virtual_channel}
use Rattle.fab_tables.specs.Dependencies.{IsPath}
use Rattle.fab_tables.proofs.Examples.Fabrics.{switch, channel, terminal}
use Rattle.fab_transit.specs.declared.mixed.Side.TheVariants.{Old, New}
use Rattle.fab_transit.specs.MixedWalks.{Change, bound, Standing, hop_of, lane_along, MayTake, DependsMixed, DependsMixedByNode}

abbrev pub ring3 : Topology
ring3 = record {
  switches = switch 0x10000 1 3 ∷ switch 0x10001 2 3 ∷ switch 0x10002 3 3 ∷ [];
  adapters = [];
  channels = channel 0 1 1 2 ∷ channel 0 2 2 1 ∷ channel 1 1 2 2 ∷ channel 1 2 0 1 ∷ channel 2 1 0 2 ∷ channel 2 2 1 1 ∷ [];
  terminals = terminal 4 0 3 ∷ terminal 5 1 3 ∷ terminal 6 2 3 ∷ [];
}

abbrev entries : List ℕ → Entries
entries ports = record { switches = 3; in_use = 1 ∷ 2 ∷ 3 ∷ 4 ∷ 5 ∷ 6 ∷ []; ports = ports }

-- only the entries of switches 1 and 2 for LID 1 differ
abbrev old_entries : Entries
old_entries = entries (0 ∷ 1 ∷ 1 ∷ 1 ∷ 0 ∷ 2 ∷ 2 ∷ 1 ∷ 0 ∷ 3 ∷ 2 ∷ 1 ∷ 1 ∷ 3 ∷ 2 ∷ 2 ∷ 1 ∷ 3 ∷ [])

abbrev new_entries : Entries
new_entries = entries (0 ∷ 2 ∷ 2 ∷ 1 ∷ 0 ∷ 2 ∷ 2 ∷ 1 ∷ 0 ∷ 3 ∷ 2 ∷ 1 ∷ 1 ∷ 3 ∷ 2 ∷ 2 ∷ 1 ∷ 3 ∷ [])

abbrev change : Change
change = record { before = record { tables = old_entries; lanes = None }; after = record { tables = new_entries; lanes = None } }

-- each alone delivers
old_delivers : route ring3 old_entries 1 1 ≡ record { channels = 2 ∷ 4 ∷ []; end = Delivered }
old_delivers = refl

new_delivers : route ring3 new_entries 2 1 ≡ record { channels = 5 ∷ 3 ∷ []; end = Delivered }
new_delivers = refl

one_lane : bound change ≡ 1
one_lane = refl

old_hop : hop_of ring3 change 1 Old 1 ≡ Along 2
old_hop = refl

new_hop : hop_of ring3 change 1 New 2 ≡ Along 5
new_hop = refl

delivered_there : hop_of ring3 change 1 Old 0 ≡ Stop Delivered
delivered_there = refl

abbrev standing : ℕ → ℕ → Standing
standing at from = record { at = at; from = from }

-- at level 0 the packet goes on lane 0, and a level above has no good lane
good_lane : lane_along ring3 change Old 0 (standing 1 3) 2 ≡ 0
good_lane = refl

bad_lane : lane_along ring3 change Old 1 (standing 1 3) 2 ≡ 15
bad_lane = refl

path_from_1 : IsPath ring3 (terminal 5 1 3) 1
path_from_1 = record {
  terminal = (1, omega arith, refl);
  connected = (record { switch = record { 0 = 0 }; port = 0 }, refl, (1, (0, (channel 1 2 0 1, (3, omega arith, refl), refl, refl), refl)));
}

path_from_2 : IsPath ring3 (terminal 6 2 3) 1
path_from_2 = record {
  terminal = (2, omega arith, refl);
  connected = (record { switch = record { 0 = 0 }; port = 0 }, refl, (1, (0, (channel 2 1 0 2, (4, omega arith, refl), refl, refl), refl)));
}

takes_old : MayTake ring3 change 1 0 (standing 1 3) (virtual_channel 2 0)
takes_old = record { enters = (Old, refl); map_side = Old; mapped = refl; good = omega arith }

then_new : MayTake ring3 change 1 0 (standing 2 2) (virtual_channel 5 0)
then_new = record { enters = (New, refl); map_side = Old; mapped = refl; good = omega arith }

takes_new : MayTake ring3 change 1 0 (standing 2 3) (virtual_channel 5 0)
takes_new = record { enters = (New, refl); map_side = New; mapped = refl; good = omega arith }

then_old : MayTake ring3 change 1 0 (standing 1 1) (virtual_channel 2 0)
then_old = record { enters = (Old, refl); map_side = Old; mapped = refl; good = omega arith }

-- from switch 1 by the old plan and on by the new one, and from switch 2 the other way round
from_1 : DependsMixed ring3 change (virtual_channel 2 0) (virtual_channel 5 0)
from_1 = (
  terminal 5 1 3,
  1,
  0,
  virtual_channel 2 0 ∷ virtual_channel 5 0 ∷ [],
  standing 1 1,
  record { path = path_from_1; level = (Old, refl); leads = (takes_old, (then_new, refl)) },
  (0, refl, refl),
)

from_2 : DependsMixed ring3 change (virtual_channel 5 0) (virtual_channel 2 0)
from_2 = (
  terminal 6 2 3,
  1,
  0,
  virtual_channel 5 0 ∷ virtual_channel 2 0 ∷ [],
  standing 2 2,
  record { path = path_from_2; level = (New, refl); leads = (takes_new, (then_old, refl)) },
  (0, refl, refl),
)

-- so the dependencies close a walk of two virtual channels, of the numbers 2 and 5
closed : IsOnClosedWalk (DependsMixedByNode ring3 change) 2
closed = (
  1,
  (
    5,
    (virtual_channel 2 0, virtual_channel 5 0, from_1, refl, refl),
    (2, (virtual_channel 5 0, virtual_channel 2 0, from_2, refl, refl), refl),
  ),
)
