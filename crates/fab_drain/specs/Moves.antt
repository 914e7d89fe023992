-- Moves of single packets.
use Rattle.std.specs.Prelude.{◌≡◌, ◌+◌, Option, Some, None, IsSome}
use Rattle.fab_model.specs.Topology.{Topology}
use Rattle.fab_tables.specs.declared.plan.Plan.{Plan}
use Rattle.fab_tables.specs.declared.verdict.VirtualChannel.{VirtualChannel}
use Rattle.fab_drain.specs.declared.packet.Packet.{Packet}
use Rattle.fab_drain.specs.declared.packet.Put.{Put}
use Rattle.fab_drain.specs.declared.packet.Put.TheVariants.{Placed, Taken}
use Rattle.fab_drain.specs.declared.packet.Moved.{Moved}
use Rattle.fab_drain.specs.declared.packet.Moved.TheVariants.{Went, Left, Waits, Nothing}
use Rattle.fab_drain.specs.Loads.{Load, Loaded, loaded_at, with_cell, loaded_with, stand_of, next_of}

-- a packet is placed where its virtual channel is empty
abbrev pub put_at : Topology → Plan → Load → Packet → VirtualChannel → Option Loaded → Put × Load
put_at t p load packet v None = (Placed, with_cell load v (Some (loaded_with t p packet)))
put_at t p load packet v (Some other) = (Taken, load)

abbrev pub put_on : Topology → Plan → Load → Packet → Option VirtualChannel → Put × Load
put_on t p load packet None = (Taken, load)
put_on t p load packet (Some v) = put_at t p load packet v (loaded_at load v)

abbrev pub put_in : Topology → Plan → Load → Packet → Put × Load
put_in t p load packet = put_on t p load packet (stand_of t p packet)

-- the packet one hop further
abbrev pub one_on : Packet → Packet
one_on packet = record packet { position = packet.position + 1 }

-- A packet at its last position leaves; another one goes to its next virtual channel where that is empty, and else waits.
abbrev pub went_to : Topology → Plan → Load → VirtualChannel → Loaded → VirtualChannel → Option Loaded → Moved × Load
went_to t p load v loaded w (Some other) = (Waits, load)
went_to t p load v loaded w None = (Went, with_cell (with_cell load v None) w (Some (loaded_with t p (one_on loaded.packet))))

abbrev pub moved_on : Topology → Plan → Load → VirtualChannel → Loaded → Option VirtualChannel → Moved × Load
moved_on t p load v loaded None = (Left, with_cell load v None)
moved_on t p load v loaded (Some w) = went_to t p load v loaded w (loaded_at load w)

abbrev pub moved_from : Topology → Plan → Load → VirtualChannel → Option Loaded → Moved × Load
moved_from t p load v None = (Nothing, load)
moved_from t p load v (Some loaded) = moved_on t p load v loaded (next_of t p loaded.packet)

-- what becomes of the packet on a virtual channel
abbrev pub advanced : Topology → Plan → Load → VirtualChannel → Moved × Load
advanced t p load v = moved_from t p load v (loaded_at load v)

-- where that packet goes next
abbrev pub next_from : Topology → Plan → Option Loaded → Option VirtualChannel
next_from t p None = None
next_from t p (Some loaded) = next_of t p loaded.packet

abbrev pub next_at : Topology → Plan → Load → VirtualChannel → Option VirtualChannel
next_at t p load v = next_from t p (loaded_at load v)

-- it makes a move
abbrev pub IsMove : Moved → Type 0
IsMove Went = Unit {0}
IsMove Left = Unit {0}
IsMove Waits = ⊥
IsMove Nothing = ⊥

abbrev pub MayMove : Topology → Plan → Load → VirtualChannel → Type 0
MayMove t p load v = IsMove (advanced t p load v).0

-- the packet on one virtual channel waits for the other one
abbrev pub Awaits : Topology → Plan → Load → VirtualChannel → VirtualChannel → Type 0
Awaits t p load v w = (loaded : Loaded) × (loaded_at load v ≡ Some loaded) × (next_of t p loaded.packet ≡ Some w) × IsSome (loaded_at load w)
