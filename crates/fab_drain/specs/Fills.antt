-- The load that fills a fabric: a packet on each virtual channel that some route uses.
use Rattle.std.specs.Prelude.{◌≡◌, ℕ, suc, ◌<◌, ◌⊎◌, List, [], ◌∷◌, length, Option, Some, None, MatchOption, slice_get}
use Rattle.fab_model.specs.declared.rows.TerminalRow.{TerminalRow}
use Rattle.fab_model.specs.Topology.{Topology}
use Rattle.fab_tables.specs.declared.plan.Plan.{Plan}
use Rattle.fab_tables.specs.declared.verdict.VirtualChannel.{VirtualChannel}
use Rattle.fab_tables.specs.First.{IsBefore}
use Rattle.fab_certify.specs.declared.certified.Certified.TheVariants as certified
use Rattle.fab_certify.specs.Certificate.{IsCertificate}
use Rattle.fab_drain.specs.declared.packet.Packet.{Packet}
use Rattle.fab_drain.specs.declared.state.Filled.{Filled}
use Rattle.fab_drain.specs.declared.state.Filled.TheVariants.{Full, Refused}
use Rattle.fab_certify.specs.Certificate.{IsSoundPlan}
use Rattle.fab_drain.specs.Loads.{hops_of, stand_of, IsPacket, Load, Loaded, loaded_at, IsLoad}

-- a packet that may stand on the virtual channel
pub record IsCandidate (t : Topology) (p : Plan) (v : VirtualChannel) (packet : Packet) : Type 0 where
  pub is_packet : IsPacket t p packet
  pub stands : stand_of t p packet ≡ Some v

-- candidates go by LID, source, the terminal's port, and position
abbrev pub key_of_row : Packet → Option TerminalRow → List ℕ
key_of_row packet None = []
key_of_row packet (Some row) = packet.lid.0 ∷ row.switch.0 ∷ row.port ∷ packet.position ∷ []

abbrev pub key_of : Topology → Packet → List ℕ
key_of t packet = key_of_row packet (slice_get t.terminals packet.terminal.0)

pub record IsFirstOf (t : Topology) (P : Packet → Type 0) (packet : Packet) : Type 0 where
  pub holds : P packet
  pub first : (other : Packet) → P other → ¬ IsBefore (key_of t other) (key_of t packet)

-- the candidate's route has a further hop
pub record GoesFurther (t : Topology) (p : Plan) (v : VirtualChannel) (packet : Packet) : Type 0 where
  pub candidate : IsCandidate t p v packet
  pub further : suc packet.position < length (hops_of t p packet)

-- the first candidate that goes further, or, where none does, the first one
abbrev pub IsPlaced : Topology → Plan → VirtualChannel → Packet → Type 0
IsPlaced t p v packet =
    IsFirstOf t (λ q. GoesFurther t p v q) packet ⊎ (((q : Packet) → ¬ GoesFurther t p v q) × IsFirstOf t (λ q. IsCandidate t p v q) packet)

-- each virtual channel that has a candidate has its packet, and no other has one
pub record IsFilling (t : Topology) (p : Plan) (load : Load) : Type 0 where
  pub is_load : IsLoad t p load
  pub placed : (v : VirtualChannel) → MatchOption (loaded_at load v) ((q : Packet) → ¬ IsCandidate t p v q) (λ (loaded : Loaded). IsPlaced t p v loaded.packet)

-- a plan is refused exactly where it isn't certified for other reasons than a ring, with the same verdict
abbrev pub IsFilled : Topology → Plan → Filled → Type 0
IsFilled t p (Refused fault) = IsCertificate t p (certified.Refused fault)
IsFilled t p (Full load) = IsSoundPlan t p × IsFilling t p load
