-- The virtual channels that packets and replies use, and the joint dependencies, by number, as they are collected LID by LID.
use Rattle.std.specs.Prelude.{◌≡◌, ℕ, ◌*◌, ◌<◌, ◌≤◌, List, [], length, Bool, Contains, Some, slice_get}
use Rattle.fab_model.specs.declared.rows.SwitchId.{SwitchId}
use Rattle.fab_model.specs.declared.rows.TerminalRow.{TerminalRow}
use Rattle.fab_model.specs.Topology.{Topology, lids_of}
use Rattle.fab_model.specs.Connected.{IsConnectedTo}
use Rattle.fab_tables.specs.declared.verdict.VirtualChannel.{VirtualChannel}
use Rattle.fab_tables.specs.Entries.{Entries}
use Rattle.fab_tables.specs.First.{IsFirst}
use Rattle.fab_tables.specs.LaneTables.{LaneTables}
use Rattle.fab_tables.specs.VirtualChannels.{virtual_channels}
use Rattle.fab_tables.specs.Verdicts.{Leaves}
use Rattle.fab_tables.specs.Dependencies.{IsPath, node_of}
use Rattle.fab_tables.specs.Judged.{IsRoomFor, hops_from, hops_behind}
use Rattle.fab_certify.specs.Collected.{Collected, IsMarked, IsMarkedAt, HasHops, AreBehind}
use Rattle.fab_replies.specs.declared.collecting.Way.{Way}
use Rattle.fab_replies.specs.declared.collecting.Joint.{Joint}
use Rattle.fab_replies.specs.declared.collecting.Joint.TheVariants.{Dependencies, Fault}
use Rattle.fab_replies.specs.Replies.{AreSent, IsUsedJointly, DependsJointlyByNode}
use Rattle.fab_replies.specs.Answers.{IsFaultAt, HasGoodReplies}

-- the hops of packets or replies that begin there
abbrev pub hops_of : Topology → Entries → LaneTables → Way → List VirtualChannel
hops_of t e l way = hops_from t e l way.lid.0 way.start.switch.0 way.start.port way.level

-- some packet or some reply goes so
pub record IsWay (t : Topology) (e : Entries) (l : LaneTables) (way : Way) : Type 0 where
  pub in_use : Contains (lids_of t) way.lid.0
  pub switch : way.start.switch.0 < length t.switches
  pub connected : IsConnectedTo t way.start.switch.0 way.lid.0
  pub level : way.level < 16
  pub sent : AreSent t e l (hops_of t e l way)

-- what is collected comes from packets and replies
pub record IsFromBoth (t : Topology) (e : Entries) (l : LaneTables) (c : Collected) : Type 0 where
  pub each : length c.used ≡ length t.channels * l.count
  pub used : (n : ℕ) → IsMarked c n → (v : VirtualChannel) × IsUsedJointly t e l v × (v.lane < l.count) × (node_of l.count v ≡ n)
  pub pairs : (m n : ℕ) → Contains c.pairs (m, n) → DependsJointlyByNode t e l m n

-- all lanes are below the lane count
abbrev pub AreGood : LaneTables → List VirtualChannel → Type 0
AreGood l hops = (k : ℕ) (v : VirtualChannel) → slice_get hops k ≡ Some v → v.lane < l.count

-- the hops are good, and are collected
pub record AreDone (l : LaneTables) (hops : List VirtualChannel) (c : Collected) : Type 0 where
  pub good : AreGood l hops
  pub has : HasHops l.count hops c

-- Behind each switch and level that are marked the hops are good, and are collected; where no pair of ports has a map, so are all from there on.
pub record AreMarked (t : Topology) (e : Entries) (l : LaneTables) (lid : ℕ) (marks : List Bool) (c : Collected) : Type 0 where
  pub room : IsRoomFor t marks
  pub behind : AreBehind t e l lid marks c
  pub good : (s of_level : ℕ) → of_level < 16 → IsMarkedAt marks s of_level → AreGood l (hops_behind t e l lid s of_level)
  pub whole : l.pairs ≡ [] → (s of_level : ℕ) → of_level < 16 → IsMarkedAt marks s of_level → AreDone l (hops_from t e l lid s 0 of_level) c

-- the first hop that has a bad lane leaves the switch
pub record IsFirstBad (t : Topology) (l : LaneTables) (hops : List VirtualChannel) (at : SwitchId) : Type 0 where
  pub hop : ℕ
  pub taken : VirtualChannel
  pub at_hop : slice_get hops hop ≡ Some taken
  pub leaves : Leaves t taken at
  pub bad : l.count ≤ taken.lane
  pub none_before : (k : ℕ) (v : VirtualChannel) → k < hop → slice_get hops k ≡ Some v → v.lane < l.count

-- the packets to a LID are collected
abbrev pub HasPacketsTo : Topology → Entries → LaneTables → ℕ → Collected → Type 0
HasPacketsTo t e l lid c = (p : TerminalRow) → IsPath t p lid → HasHops l.count (virtual_channels t e l p lid) c

-- the LID is a terminal's, at this switch
abbrev pub IsHome : Topology → ℕ → ℕ → Type 0
IsHome t lid s = (p : TerminalRow) × Contains t.terminals p × (p.lid.0 ≡ lid) × (p.switch.0 ≡ s)

-- what is collected is what packets and replies use, and the joint dependencies
pub record AreJointly (t : Topology) (e : Entries) (l : LaneTables) (c : Collected) : Type 0 where
  pub from_both : IsFromBoth t e l c
  pub used : (v : VirtualChannel) → IsUsedJointly t e l v → IsMarked c (node_of l.count v)
  pub pairs : (m n : ℕ) → DependsJointlyByNode t e l m n → Contains c.pairs (m, n)

-- all of this, or the first reply that has a bad lane
abbrev pub IsJoint : Topology → Entries → LaneTables → Joint → Type 0
IsJoint t e l (Dependencies c) = HasGoodReplies t e l × AreJointly t e l c
IsJoint t e l (Fault fault) = IsFirst (IsFaultAt t e l) fault
