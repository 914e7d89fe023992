-- Packets and replies that wait for each other.
use Rattle.std.specs.Prelude.{◌≡◌, ℕ, suc, ◌<◌, ◌≤◌, List, length, Contains, Some, slice_get}
use Rattle.fab_model.specs.Topology.{Topology}
use Rattle.fab_tables.specs.declared.verdict.VirtualChannel.{VirtualChannel}
use Rattle.fab_tables.specs.Entries.{Entries}
use Rattle.fab_tables.specs.LaneTables.{LaneTables}
use Rattle.fab_replies.specs.Replies.{AreSent}

-- a packet or a reply under way, on the hops from the first to the last
pub record Message : Type 0 where
  pub hops : List VirtualChannel
  pub first : ℕ
  pub last : ℕ

-- it holds the virtual channels of the hops from the first to the last, and waits for that of the next hop
abbrev pub Holds : Message → VirtualChannel → Type 0
Holds m v = (k : ℕ) × (m.first ≤ k) × (k ≤ m.last) × (slice_get m.hops k ≡ Some v)

abbrev pub Awaits : Message → VirtualChannel → Type 0
Awaits m v = slice_get m.hops (suc m.last) ≡ Some v

pub record IsWaiting (t : Topology) (e : Entries) (l : LaneTables) (m : Message) : Type 0 where
  pub sent : AreSent t e l m.hops
  pub ordered : m.first ≤ m.last
  pub next : suc m.last < length m.hops

-- there is a message, all wait, and each virtual channel that one awaits is held by one of them
pub record IsDeadlocked (t : Topology) (e : Entries) (l : LaneTables) (messages : List Message) : Type 0 where
  pub some : 0 < length messages
  pub waiting : (m : Message) → Contains messages m → IsWaiting t e l m
  pub held : (m : Message) (v : VirtualChannel) → Contains messages m → Awaits m v → (n : Message) × Contains messages n × Holds n v
