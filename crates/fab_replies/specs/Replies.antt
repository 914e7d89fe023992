-- Replies: what comes back to a terminal. The answer to a packet goes with the two LIDs swapped, at the packet's level. So it begins at the place of the
-- packet's LID, comes in by that place's port, and goes along the route of the switch there to the terminal's LID.
use Rattle.std.specs.Prelude.{◌≡◌, ℕ, ◌⊎◌, List, [], Contains, Option, Some, None}
use Rattle.fab_graph.specs.Walks.{Image}
use Rattle.fab_model.specs.declared.rows.Place.{Place}
use Rattle.fab_model.specs.declared.rows.TerminalRow.{TerminalRow}
use Rattle.fab_model.specs.Topology.{Topology, place_of}
use Rattle.fab_tables.specs.declared.verdict.VirtualChannel.{VirtualChannel}
use Rattle.fab_tables.specs.Entries.{Entries}
use Rattle.fab_tables.specs.LaneTables.{LaneTables, level}
use Rattle.fab_tables.specs.VirtualChannels.{virtual_channels, Follow}
use Rattle.fab_tables.specs.Dependencies.{IsPath, node_of}
use Rattle.fab_tables.specs.Judged.{hops_from}

-- a packet goes from the terminal to the LID, and is answered from this place
pub record IsReply (t : Topology) (p : TerminalRow) (lid : ℕ) (from : Place) : Type 0 where
  pub path : IsPath t p lid
  pub place : place_of t lid ≡ Some from

abbrev pub hops_at : Topology → Entries → LaneTables → TerminalRow → Place → Option ℕ → List VirtualChannel
hops_at t e l p from None = []
hops_at t e l p from (Some of_level) = hops_from t e l p.lid.0 from.switch.0 from.port of_level

-- the virtual channels of the reply, at the level of the packet; none where that has no level
abbrev pub reply_hops : Topology → Entries → LaneTables → TerminalRow → ℕ → Place → List VirtualChannel
reply_hops t e l p lid from = hops_at t e l p from (level l p.switch.0 lid)

-- the hops of a packet, of a reply, of the one or the other
abbrev pub AreOfPacket : Topology → Entries → LaneTables → List VirtualChannel → Type 0
AreOfPacket t e l hops = (p : TerminalRow) × (lid : ℕ) × IsPath t p lid × (hops ≡ virtual_channels t e l p lid)

abbrev pub AreOfReply : Topology → Entries → LaneTables → List VirtualChannel → Type 0
AreOfReply t e l hops = (p : TerminalRow) × (lid : ℕ) × (from : Place) × IsReply t p lid from × (hops ≡ reply_hops t e l p lid from)

abbrev pub AreSent : Topology → Entries → LaneTables → List VirtualChannel → Type 0
AreSent t e l hops = AreOfPacket t e l hops ⊎ AreOfReply t e l hops

-- some packet or some reply uses the virtual channel
abbrev pub IsUsedJointly : Topology → Entries → LaneTables → VirtualChannel → Type 0
IsUsedJointly t e l v = (hops : List VirtualChannel) × AreSent t e l hops × Contains hops v

-- the joint dependencies: the two virtual channels follow each other on some packet or some reply
abbrev pub DependsJointly : Topology → Entries → LaneTables → VirtualChannel → VirtualChannel → Type 0
DependsJointly t e l v w = (hops : List VirtualChannel) × AreSent t e l hops × Follow hops v w

-- as a graph on the numbers by (channel, lane)
abbrev pub DependsJointlyByNode : Topology → Entries → LaneTables → ℕ → ℕ → Type 0
DependsJointlyByNode t e l = Image (node_of l.count) (DependsJointly t e l)
