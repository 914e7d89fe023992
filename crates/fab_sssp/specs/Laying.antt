-- Laying a LID: a channel for each switch that is connected to it, and the entries that go along them.
use Rattle.std.specs.Prelude.{◌≡◌, ◌≢◌, ℕ, ◌<◌, ◌⊎◌, ◌==◌, List, Option, None, Some, slice_get, if◌then◌else◌}
use Rattle.fab_model.specs.declared.rows.ChannelRow.{ChannelRow}
use Rattle.fab_model.specs.declared.rows.Place.{Place}
use Rattle.fab_model.specs.Topology.{Topology, place_of}
use Rattle.fab_model.specs.Connected.{AreConnected}
use Rattle.fab_tables.specs.Entries.{Entries, entry}
use Rattle.fab_tables.specs.Route.{tip}
use Rattle.fab_tables.specs.Trees.{next}
use Rattle.fab_sssp.specs.LeastWeight.{IsDistance, IsLeastPort}

-- of the channels of a switch that begin walks of least weight, that of the least port; it leads to a nearer switch
pub record IsLeastChannel (t : Topology) (weight : ℕ → ℕ) (s to c : ℕ) : Type 0 where
  pub row : ChannelRow
  pub there : slice_get t.channels c ≡ Some row
  pub tail : row.tail.0 ≡ s
  pub least : IsLeastPort t weight s to row.port
  pub nearer : (m n : ℕ) × IsDistance t weight s to m × IsDistance t weight (tip t c) to n × (n < m)

-- the port by which a channel leaves
abbrev pub port_of_row : Option ChannelRow → ℕ
port_of_row None = 255
port_of_row (Some row) = row.port

-- the entry of a switch for a LID at this place: the port of its channel; where it has none, the place's port at the LID's own switch, and 255 elsewhere
abbrev pub port_along : Topology → Place → ℕ → Option ℕ → ℕ
port_along t place s None = if s == place.switch.0 then place.port else 255
port_along t place s (Some c) = port_of_row (slice_get t.channels c)

-- the LID's own switch has no channel; another one has the least if it is connected to it, and else none
abbrev pub HasItsChannel : Topology → (ℕ → ℕ) → ℕ → ℕ → Option ℕ → Type 0
HasItsChannel t weight s to None = (s ≡ to) ⊎ ¬ AreConnected t s to
HasItsChannel t weight s to (Some c) = (s ≢ to) × IsLeastChannel t weight s to c

-- a switch has its channel in the tree, and its entry goes along it
pub record IsLaidAt (t : Topology) (weight : ℕ → ℕ) (e : Entries) (lid : ℕ) (place : Place) (tree : List (Option ℕ)) (s : ℕ) : Type 0 where
  pub channel : HasItsChannel t weight s place.switch.0 (next tree s)
  pub entry_is : entry e s lid ≡ port_along t place s (next tree s)

-- so each switch has
pub record IsLaid (t : Topology) (weight : ℕ → ℕ) (e : Entries) (lid : ℕ) (tree : List (Option ℕ)) : Type 0 where
  pub place : Place
  pub in_use : place_of t lid ≡ Some place
  pub each : (s : ℕ) → IsLaidAt t weight e lid place tree s

-- tables with the same entries for all other LIDs
abbrev pub KeepsOtherLids : ℕ → Entries → Entries → Type 0
KeepsOtherLids lid old new = (s other : ℕ) → other ≢ lid → entry new s other ≡ entry old s other
