-- A ring of the joint dependencies as packets and replies that wait for each other.
use Rattle.std.specs.Prelude.{◌≡◌, ℕ, List, [], ◌∷◌, Some, slice_get}
use Rattle.fab_model.specs.Topology.{Topology}
use Rattle.fab_tables.specs.declared.plan.Plan.{Plan}
use Rattle.fab_tables.specs.declared.verdict.VirtualChannel.{VirtualChannel}
use Rattle.fab_tables.specs.Dependencies.{AreReadLanes, node_of}
use Rattle.fab_tables.specs.Entries.{Entries}
use Rattle.fab_tables.specs.LaneTables.{LaneTables}
use Rattle.fab_replies.specs.Waiting.{Message, Awaits, IsWaiting, IsDeadlocked}

-- the message holds the virtual channel of the one number alone, and waits for that of the other
pub record WaitsBetween (t : Topology) (e : Entries) (l : LaneTables) (m : Message) (here next : ℕ) : Type 0 where
  pub waiting : IsWaiting t e l m
  pub alone : m.first ≡ m.last
  pub held : VirtualChannel
  pub holds : slice_get m.hops m.first ≡ Some held
  pub is_here : node_of l.count held ≡ here
  pub awaited : VirtualChannel
  pub awaits : Awaits m awaited
  pub is_next : node_of l.count awaited ≡ next

-- one message for each number of the list, that waits for the next, and the last one for the first of the ring
abbrev pub WaitAround : Topology → Entries → LaneTables → ℕ → List ℕ → List Message → Type 0
WaitAround t e l first (a ∷ []) (m ∷ []) = WaitsBetween t e l m a first
WaitAround t e l first (a ∷ b ∷ rest) (m ∷ more) = WaitsBetween t e l m a b × WaitAround t e l first (b ∷ rest) more
WaitAround t e l first ring messages = ⊥

abbrev pub WaitInRing : Topology → Entries → LaneTables → List ℕ → List Message → Type 0
WaitInRing t e l [] messages = ⊥
WaitInRing t e l (first ∷ rest) messages = WaitAround t e l first (first ∷ rest) messages

-- some packets and replies wait for each other, one for each member of the ring
abbrev pub IsDeadlockedRing : Topology → Plan → List ℕ → Type 0
IsDeadlockedRing t p ring =
    (l : LaneTables) × AreReadLanes t p.lanes l × (messages : List Message) × IsDeadlocked t p.tables l messages × WaitInRing t p.tables l ring messages
