-- What is said of a plan's replies: the first fault that no numbers can mend, of the plan or else of a reply; or the first ring of the joint dependencies;
-- or numbers.
use Rattle.std.specs.Prelude.{◌≡◌, ℕ, ◌<◌, ◌≤◌, List, [], ◌∷◌, length, Some, slice_get, Contains}
use Rattle.fab_graph.specs.Rings.{IsFirstRing}
use Rattle.fab_model.specs.declared.rows.Lid.{Lid}
use Rattle.fab_model.specs.declared.rows.Place.{Place}
use Rattle.fab_model.specs.declared.rows.SwitchId.{SwitchId}
use Rattle.fab_model.specs.declared.rows.TerminalRow.{TerminalRow}
use Rattle.fab_model.specs.Topology.{Topology, lids_of}
use Rattle.fab_tables.specs.declared.plan.Plan.{Plan}
use Rattle.fab_tables.specs.declared.verdict.VirtualChannel.{VirtualChannel}
use Rattle.fab_tables.specs.Entries.{Entries}
use Rattle.fab_tables.specs.First.{IsFirst}
use Rattle.fab_tables.specs.LaneTables.{LaneTables, no_lanes}
use Rattle.fab_tables.specs.Dependencies.{AreReadLanes}
use Rattle.fab_tables.specs.Verdicts.{IsRefusal, Leaves}
use Rattle.fab_certify.specs.Numbered.{IsNumberedBy, IsSound}
use Rattle.fab_replies.specs.declared.replied.Replied.{Replied}
use Rattle.fab_replies.specs.declared.replied.Replied.TheVariants.{Numbers, Refused, BadLane, RingReplies}
use Rattle.fab_replies.specs.Replies.{IsReply, reply_hops, AreOfReply, IsUsedJointly, DependsJointly, DependsJointlyByNode}

-- The reply to a terminal's LID, from another LID, takes at the hop of this count a lane that is not below the lane count. Its place is (LID, the LID from
-- which it comes, hop).
pub record IsBadAt (t : Topology) (e : Entries) (l : LaneTables) (place : List ℕ) (lid from : Lid) (at : SwitchId) : Type 0 where
  pub terminal : TerminalRow
  pub source : Place
  pub hop : ℕ
  pub taken : VirtualChannel
  pub is_place : place ≡ lid.0 ∷ from.0 ∷ hop ∷ []
  pub reply : IsReply t terminal from.0 source
  pub to_lid : terminal.lid ≡ lid
  pub at_hop : slice_get (reply_hops t e l terminal from.0 source) hop ≡ Some taken
  pub leaves : Leaves t taken at
  pub bad : l.count ≤ taken.lane

abbrev pub IsFaultAt : Topology → Entries → LaneTables → List ℕ → Replied → Type 0
IsFaultAt t e l place (BadLane lid from at) = IsBadAt t e l place lid from at
IsFaultAt t e l place _ = ⊥

-- the lanes of all replies are below the lane count
abbrev pub HasGoodReplies : Topology → Entries → LaneTables → Type 0
HasGoodReplies t e l = (hops : List VirtualChannel) (v : VirtualChannel) → AreOfReply t e l hops → Contains hops v → v.lane < l.count

-- lanes of the same count, without levels, maps, pairs and numbers
abbrev pub bare_lanes : Topology → ℕ → LaneTables
bare_lanes t count = no_lanes count (length t.switches) (length t.channels) (lids_of t)

-- with the lanes with which the plan is read
abbrev pub IsAnswerBy : Topology → Entries → LaneTables → Replied → Type 0
IsAnswerBy t e l (Refused fault) = IsRefusal t e l fault
IsAnswerBy t e l (BadLane lid from at) = IsSound t e l × IsFirst (IsFaultAt t e l) (BadLane lid from at)
IsAnswerBy t e l (RingReplies ring) = IsSound t e l × HasGoodReplies t e l × IsFirstRing (DependsJointlyByNode t e l) ring
IsAnswerBy t e l (Numbers new) =
    IsSound t e l × HasGoodReplies t e l × IsNumberedBy (IsUsedJointly t e l) (DependsJointly t e l) (bare_lanes t l.count) new

abbrev pub IsAnswerTo : Topology → Plan → Replied → Type 0
IsAnswerTo t p answer = (l : LaneTables) × AreReadLanes t p.lanes l × IsAnswerBy t p.tables l answer
