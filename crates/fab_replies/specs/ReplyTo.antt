-- The replies to a LID, as they are collected one after the other.
use Rattle.std.specs.Prelude.{◌≡◌, ℕ, Option, Some, None}
use Rattle.fab_model.specs.declared.rows.SwitchId.{SwitchId}
use Rattle.fab_model.specs.declared.rows.Place.{Place}
use Rattle.fab_model.specs.declared.rows.TerminalRow.{TerminalRow}
use Rattle.fab_model.specs.Topology.{Topology}
use Rattle.fab_tables.specs.declared.plan.Plan.{Plan}
use Rattle.fab_tables.specs.Entries.{Entries}
use Rattle.fab_tables.specs.LaneTables.{LaneTables}
use Rattle.fab_tables.specs.Dependencies.{IsPath, AreReadLanes}
use Rattle.fab_certify.specs.Collected.{Collected}
use Rattle.fab_certify.specs.Numbered.{IsSound}
use Rattle.fab_replies.specs.declared.collecting.Way.{Way}
use Rattle.fab_replies.specs.Replies.{IsReply, reply_hops}
use Rattle.fab_replies.specs.Jointly.{hops_of, IsWay, AreDone, IsFirstBad}

-- the reply to a LID from a LID has good lanes, and is collected
abbrev pub HasReply : Topology → Entries → LaneTables → ℕ → ℕ → Collected → Type 0
HasReply t e l lid from c = (p : TerminalRow) (source : Place) → p.lid.0 ≡ lid → IsReply t p from source → AreDone l (reply_hops t e l p from source) c

-- its first hop that has a bad lane leaves the switch
abbrev pub IsBadReply : Topology → Entries → LaneTables → ℕ → ℕ → SwitchId → Type 0
IsBadReply t e l lid from at = (p : TerminalRow) × (source : Place) × (p.lid.0 ≡ lid) × IsReply t p from source × IsFirstBad t l (reply_hops t e l p from source) at

-- the replies to a LID have good lanes, and are collected
abbrev pub HasReplies : Topology → Entries → LaneTables → ℕ → Collected → Type 0
HasReplies t e l lid c = (from : ℕ) → HasReply t e l lid from c

-- It is the way of the reply to a terminal's LID that comes from a LID: there is one, and each goes so. There is none where the terminal isn't connected to
-- that LID.
abbrev pub FindsReplyWay : Topology → Entries → LaneTables → ℕ → ℕ → Option Way → Type 0
FindsReplyWay t e l lid from None = (p : TerminalRow) → p.lid.0 ≡ lid → ¬ IsPath t p from
FindsReplyWay t e l lid from (Some way) = IsWay t e l way × (way.lid.0 ≡ lid) × (p : TerminalRow) × (source : Place) × (p.lid.0 ≡ lid) × IsReply t p from source
    × ((q : TerminalRow) (other : Place) → q.lid.0 ≡ lid → IsReply t q from other → reply_hops t e l q from other ≡ hops_of t e l way)
