-- What numbers of packets and replies promise.
use Rattle.std.specs.Prelude.{◌<◌, List, Some}
use Rattle.fab_graph.specs.Walks.{Rises}
use Rattle.fab_model.specs.Topology.{Topology}
use Rattle.fab_tables.specs.declared.plan.Plan.{Plan}
use Rattle.fab_tables.specs.declared.verdict.VirtualChannel.{VirtualChannel}
use Rattle.fab_tables.specs.Entries.{Entries}
use Rattle.fab_tables.specs.LaneTables.{LaneTables}
use Rattle.fab_tables.specs.Dependencies.{AreReadLanes}
use Rattle.fab_tables.specs.Certified.{IsCertified, number_of}
use Rattle.fab_replies.specs.Replies.{IsUsedJointly, DependsJointly}
use Rattle.fab_replies.specs.Waiting.{Message, IsDeadlocked}

-- the plan with these numbers in place of its own
abbrev pub numbered_with : Entries → LaneTables → LaneTables → Plan
numbered_with e l new = record { tables = e; lanes = Some (record l { numbers = new.numbers }) }

-- Each virtual channel of a packet or of a reply has a lane below the count and a number, the numbers rise along the joint dependencies, no packets and
-- replies wait for each other, and the plan with these numbers is certified.
pub record CoversBy (t : Topology) (e : Entries) (l new : LaneTables) : Type 0 where
  pub lane : (v : VirtualChannel) → IsUsedJointly t e l v → v.lane < l.count
  pub number : (v : VirtualChannel) → IsUsedJointly t e l v → 0 < number_of new v
  pub rises : Rises (number_of new) (DependsJointly t e l)
  pub free : (messages : List Message) → ¬ IsDeadlocked t e l messages
  pub certified : IsCertified t (numbered_with e l new)

abbrev pub Covers : Topology → Plan → LaneTables → Type 0
Covers t p new = (l : LaneTables) × AreReadLanes t p.lanes l × CoversBy t p.tables l new
