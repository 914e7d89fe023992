-- Laws of replies.
use Rattle.std.specs.Prelude.{◌≡◌, ℕ, List, Some}
use Rattle.fab_graph.specs.Walks.{IsAcyclic}
use Rattle.fab_model.specs.declared.rows.Place.{Place}
use Rattle.fab_model.specs.declared.rows.TerminalRow.{TerminalRow}
use Rattle.fab_model.specs.Topology.{Topology}
use Rattle.fab_model.specs.WellFormed.{IsWellFormed, IsFabric}
use Rattle.fab_tables.specs.declared.plan.Plan.{Plan}
use Rattle.fab_tables.specs.Entries.{Entries}
use Rattle.fab_tables.specs.Fit.{LanesFit, PlanFits}
use Rattle.fab_tables.specs.LaneTables.{LaneTables, level, HasLanePerLevel}
use Rattle.fab_tables.specs.VirtualChannels.{virtual_channels}
use Rattle.fab_tables.specs.Dependencies.{IsPath}
use Rattle.fab_tables.specs.Certified.{IsCertified}
use Rattle.fab_certify.specs.Numbered.{IsSound}
use Rattle.fab_replies.specs.declared.replied.Replied.{Replied}
use Rattle.fab_replies.specs.declared.replied.Replied.TheVariants.{Numbers, RingReplies}
use Rattle.fab_replies.specs.Replies.{IsReply, reply_hops, DependsJointly}
use Rattle.fab_replies.specs.Answers.{HasGoodReplies, IsAnswerBy, IsAnswerTo}
use Rattle.fab_replies.specs.Covered.{Covers}
use Rattle.fab_replies.specs.Ringed.{IsDeadlockedRing}
use Rattle.fab_replies.specs.Turning.{IsNumbers, IsAcyclicByLevel}

-- a plan has one answer
abbrev pub OneAnswer : Type 0
OneAnswer = (t : Topology) (p : Plan) (x y : Replied) → IsFabric t → PlanFits t p → IsAnswerTo t p x → IsAnswerTo t p y → x ≡ y

-- and it has one
abbrev pub AnswerExists : Type 0
AnswerExists = (t : Topology) (p : Plan) → IsFabric t → PlanFits t p → (x : Replied) × IsAnswerTo t p x

-- where there are numbers, they cover packets and replies
abbrev pub NumbersCover : Type 0
NumbersCover = (t : Topology) (p : Plan) (new : LaneTables) → PlanFits t p → IsAnswerTo t p (Numbers new) → Covers t p new

-- Where two terminals have the same level for each other, the reply to a packet of the one is a packet of the other.
abbrev pub SameLevelIsPacket : Type 0
SameLevelIsPacket = (t : Topology) (e : Entries) (l : LaneTables) (p q : TerminalRow) (from : Place) → IsFabric t → IsPath t p q.lid.0 → IsPath t q p.lid.0 →
    level l p.switch.0 q.lid.0 ≡ level l q.switch.0 p.lid.0 → IsReply t p q.lid.0 from → reply_hops t e l p q.lid.0 from ≡ virtual_channels t e l q p.lid.0

-- Where the plan is sound, the lanes of all replies are below the lane count and the joint dependencies close no walk, the answer is numbers.
abbrev pub AcyclicIsNumbered : Type 0
AcyclicIsNumbered = (t : Topology) (e : Entries) (l : LaneTables) (answer : Replied) → IsSound t e l → HasGoodReplies t e l → IsAcyclic (DependsJointly t e l) →
    IsAnswerBy t e l answer → IsNumbers answer

-- So it is for a certified plan whose lanes go by level, where what follows on packets and replies of one level closes no walk.
abbrev pub AcyclicByLevelIsNumbered : Type 0
AcyclicByLevelIsNumbered = (t : Topology) (p : Plan) (l : LaneTables) (answer : Replied) → IsWellFormed t → IsCertified t p → p.lanes ≡ Some l → LanesFit t l → HasLanePerLevel l →
    IsAcyclicByLevel t p.tables l → IsAnswerTo t p answer → IsNumbers answer

-- where there is a ring, some packets and replies wait for each other
abbrev pub RingIsDeadlocked : Type 0
RingIsDeadlocked = (t : Topology) (p : Plan) (ring : List ℕ) → IsAnswerTo t p (RingReplies ring) → IsDeadlockedRing t p ring
