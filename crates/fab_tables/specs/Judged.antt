-- Hops without a fault, and marks of the switches from which on all hops are so.
use Rattle.std.specs.Prelude.{◌≡◌, ℕ, zero, suc, ◌*◌, ◌<◌, List, length, drop, Option, Some, None, IfSome, Bool, true, false, slice_get, slice_index_or}
use Rattle.fab_model.specs.Topology.{Topology}
use Rattle.fab_tables.specs.declared.verdict.VirtualChannel.{VirtualChannel}
use Rattle.fab_tables.specs.declared.lane_faults.LaneFaults.{LaneFaults}
use Rattle.fab_tables.specs.Entries.{Entries, cell}
use Rattle.fab_tables.specs.LaneTables.{LaneTables}
use Rattle.fab_tables.specs.Route.{route}
use Rattle.fab_tables.specs.VirtualChannels.{on_channels}
use Rattle.fab_tables.specs.Certified.{number_of}
use Rattle.fab_tables.specs.LaneFaults.{SeeksNumbers}

-- its lane is below the lane count; where numbers are looked at it has one, and one above that of the hop before
pub record IsRight (faults : LaneFaults) (l : LaneTables) (before : Option VirtualChannel) (hop : VirtualChannel) : Type 0 where
  pub lane : hop.lane < l.count
  pub number : SeeksNumbers faults → 0 < number_of l hop
  pub rises : SeeksNumbers faults → IfSome before (λ first. number_of l first < number_of l hop)

abbrev pub before_at : List VirtualChannel → ℕ → Option VirtualChannel
before_at hops zero = None
before_at hops (suc k) = slice_get hops k

abbrev pub IsRightAt : LaneFaults → LaneTables → List VirtualChannel → ℕ → Type 0
IsRightAt faults l hops k = (hop : VirtualChannel) → slice_get hops k ≡ Some hop → IsRight faults l (before_at hops k) hop

-- each one of them, by itself and after the one before
abbrev pub AreRight : LaneFaults → LaneTables → List VirtualChannel → Type 0
AreRight faults l hops = (k : ℕ) → IsRightAt faults l hops k

-- the hops of the route from a switch to a LID, for packets of this level that come by this port
abbrev pub hops_from : Topology → Entries → LaneTables → ℕ → ℕ → ℕ → ℕ → List VirtualChannel
hops_from t e l lid s port of_level = on_channels t l of_level port (route t e s lid).channels

-- those behind the first; they don't depend on the port
abbrev pub hops_behind : Topology → Entries → LaneTables → ℕ → ℕ → ℕ → List VirtualChannel
hops_behind t e l lid s of_level = drop 1 (hops_from t e l lid s 0 of_level)

-- packets of this level that come to the switch by some port meet no fault from there on
abbrev pub IsJudgedAt : LaneFaults → Topology → Entries → LaneTables → ℕ → ℕ → ℕ → Type 0
IsJudgedAt faults t e l lid s of_level = (port : ℕ) × AreRight faults l (hops_from t e l lid s port of_level)

-- room for a mark at each switch and level
abbrev pub IsRoomFor : Topology → List Bool → Type 0
IsRoomFor t marks = length marks ≡ length t.switches * 16

-- each switch that is marked for a level is judged
pub record AreJudged (faults : LaneFaults) (t : Topology) (e : Entries) (l : LaneTables) (lid : ℕ) (marks : List Bool) : Type 0 where
  pub room : IsRoomFor t marks
  pub right : (s of_level : ℕ) → of_level < 16 → slice_index_or marks (cell 16 s of_level) false ≡ true → IsJudgedAt faults t e l lid s of_level
