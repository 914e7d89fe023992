-- Where lanes go by level: which channels may follow each other on a lane, on packets and on replies.
use Rattle.std.specs.Prelude.{◌≡◌, ℕ, ◌<◌, ◌⊎◌, Some}
use Rattle.fab_graph.specs.Walks.{IsAcyclic}
use Rattle.fab_model.specs.declared.rows.Place.{Place}
use Rattle.fab_model.specs.declared.rows.TerminalRow.{TerminalRow}
use Rattle.fab_model.specs.Topology.{Topology}
use Rattle.fab_tables.specs.Dependencies.{IsPath}
use Rattle.fab_tables.specs.Entries.{Entries}
use Rattle.fab_tables.specs.LaneTables.{LaneTables, level}
use Rattle.fab_tables.specs.Route.{route}
use Rattle.fab_tables.specs.VirtualChannels.{Follow}
use Rattle.fab_replies.specs.declared.replied.Replied.{Replied}
use Rattle.fab_replies.specs.declared.replied.Replied.TheVariants.{Numbers}
use Rattle.fab_replies.specs.Replies.{IsReply}

-- the answer is numbers
abbrev pub IsNumbers : Replied → Type 0
IsNumbers answer = (new : LaneTables) × (answer ≡ Numbers new)

-- on a packet of the level the channels follow each other
abbrev pub TurnsOfPackets : Topology → Entries → LaneTables → ℕ → ℕ → ℕ → Type 0
TurnsOfPackets t e l n c d = (p : TerminalRow) × (lid : ℕ) × IsPath t p lid × (level l p.switch.0 lid ≡ Some n) × Follow (route t e p.switch.0 lid).channels c d

-- on a reply to one they do
abbrev pub TurnsOfReplies : Topology → Entries → LaneTables → ℕ → ℕ → ℕ → Type 0
TurnsOfReplies t e l n c d =
    (p : TerminalRow) × (lid : ℕ) × (from : Place) × IsReply t p lid from × (level l p.switch.0 lid ≡ Some n) × Follow (route t e from.switch.0 p.lid.0).channels c d

-- levels are below the lane count, and what follows on packets and replies of one level closes no walk
pub record IsAcyclicByLevel (t : Topology) (e : Entries) (l : LaneTables) : Type 0 where
  pub low : (p : TerminalRow) (lid n : ℕ) → IsPath t p lid → level l p.switch.0 lid ≡ Some n → n < l.count
  pub acyclic : (n : ℕ) → IsAcyclic (λ (c d : ℕ). TurnsOfPackets t e l n c d ⊎ TurnsOfReplies t e l n c d)
