-- A filling under way: packets are offered in the order of their keys, and those before a place have been.
use Rattle.std.specs.Prelude.{◌≡◌, ℕ, ◌⊎◌, zero, suc, List, [], ◌∷◌, Option, Some, None, IfSome, MatchOption, Bool, true, not, ◌&&◌, nat_lt, if◌then◌else◌, slice_get, slice_index}
use Rattle.fab_model.specs.Topology.{Topology}
use Rattle.fab_tables.specs.declared.plan.Plan.{Plan}
use Rattle.fab_tables.specs.declared.starts.Start.{Start}
use Rattle.fab_tables.specs.declared.verdict.VirtualChannel.{VirtualChannel}
use Rattle.fab_tables.specs.First.{IsBefore}
use Rattle.fab_tables.specs.LaneTables.{LaneTables}
use Rattle.fab_drain.specs.declared.packet.Packet.{Packet}
use Rattle.fab_drain.specs.Loads.{Load, Loaded, loaded_at, with_cell, IsLoad}
use Rattle.fab_drain.specs.Fills.{IsCandidate, key_of, IsFirstOf, GoesFurther}

-- A packet that is offered is placed where none is, or where it is the first one that goes further.
abbrev pub is_taken : Loaded → Option Loaded → Bool
is_taken new None = true
is_taken new (Some standing) = nat_lt 1 new.remaining && not (nat_lt 1 standing.remaining)

abbrev pub offered_at : Load → VirtualChannel → Loaded → Load
offered_at load v new = if is_taken new (loaded_at load v) then with_cell load v (Some new) else load

-- No pair of ports has a map, so packets of all terminals of a switch take the same virtual channels.
abbrev pub AreAlike : Plan → Type 0
AreAlike p = IfSome p.lanes (λ (l : LaneTables). l.pairs ≡ [])

-- the candidates that come before a place
pub record IsEarlyCandidate (t : Topology) (p : Plan) (place : List ℕ) (v : VirtualChannel) (packet : Packet) : Type 0 where
  pub candidate : IsCandidate t p v packet
  pub early : IsBefore (key_of t packet) place

pub record GoesFurtherEarly (t : Topology) (p : Plan) (place : List ℕ) (v : VirtualChannel) (packet : Packet) : Type 0 where
  pub further : GoesFurther t p v packet
  pub early : IsBefore (key_of t packet) place

-- of these the first that goes further, or, where none does, the first
abbrev pub IsPlacedEarly : Topology → Plan → List ℕ → VirtualChannel → Packet → Type 0
IsPlacedEarly t p place v packet =
    IsFirstOf t (λ q. GoesFurtherEarly t p place v q) packet ⊎ (((q : Packet) → ¬ GoesFurtherEarly t p place v q) × IsFirstOf t (λ q. IsEarlyCandidate t p place v q) packet)

-- all packets before the place have been offered, and no others
pub record IsFilledBefore (t : Topology) (p : Plan) (place : List ℕ) (load : Load) : Type 0 where
  pub is_load : IsLoad t p load
  pub placed : (v : VirtualChannel) → MatchOption (loaded_at load v) ((q : Packet) → ¬ IsEarlyCandidate t p place v q) (λ (loaded : Loaded). IsPlacedEarly t p place v loaded.packet)

-- ---- places

-- behind the packets to so many of the LIDs
abbrev pub behind_lids : List ℕ → ℕ → List ℕ
behind_lids lids zero = []
behind_lids lids (suc k) = suc (slice_index lids k) ∷ []

-- before the packets from a start to a LID, and behind them
abbrev pub before_start : ℕ → Start → List ℕ
before_start lid start = lid ∷ start.switch.0 ∷ start.port ∷ []

abbrev pub behind_start : ℕ → Start → List ℕ
behind_start lid start = lid ∷ start.switch.0 ∷ suc start.port ∷ []

-- behind the packets from so many starts to a LID
abbrev pub behind_of : ℕ → Option Start → List ℕ
behind_of lid None = lid ∷ []
behind_of lid (Some start) = behind_start lid start

abbrev pub behind_starts : ℕ → List Start → ℕ → List ℕ
behind_starts lid starts zero = lid ∷ []
behind_starts lid starts (suc k) = behind_of lid (slice_get starts k)

-- the packet of a start at a position
abbrev pub at_position : ℕ → Start → ℕ → List ℕ
at_position lid start position = lid ∷ start.switch.0 ∷ start.port ∷ position ∷ []
