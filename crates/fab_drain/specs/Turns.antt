-- Whose turn it is while a load drains.
use Rattle.std.specs.Prelude.{◌≡◌, ◌≢◌, ℕ, ◌<◌, ◌⊎◌, List, [], All, Contains, IsSome, length, slice_index_or}
use Rattle.fab_model.specs.Topology.{Topology}
use Rattle.fab_tables.specs.declared.plan.Plan.{Plan}
use Rattle.fab_tables.specs.declared.verdict.VirtualChannel.{VirtualChannel}
use Rattle.fab_tables.specs.Dependencies.{node_of}
use Rattle.fab_drain.specs.Loads.{Load, loaded_at}
use Rattle.fab_drain.specs.Moves.{Awaits, advanced}
use Rattle.fab_drain.specs.Drains.{IsLeastMover}

-- those that wait for a virtual channel, by its number
abbrev pub those_for : List (List ℕ) → ℕ → List ℕ
those_for waiting awaited = slice_index_or waiting awaited []

-- the packet awaits the virtual channel of another one, and is among those that wait for it
abbrev pub IsWaiting : Topology → Plan → Load → List (List ℕ) → VirtualChannel → Type 0
IsWaiting t p load waiting v = (w : VirtualChannel) × Awaits t p load v w × Contains (those_for waiting (node_of load.count w)) (node_of load.count v)

-- Each packet is ready for a turn, or waits.
pub record AreTurns (t : Topology) (p : Plan) (load : Load) (ready : List ℕ) (waiting : List (List ℕ)) : Type 0 where
  pub each : length waiting ≡ length load.cells
  pub all : (v : VirtualChannel) → IsSome (loaded_at load v) → Contains ready (node_of load.count v) ⊎ IsWaiting t p load waiting v
  pub ready_low : All (λ k. k < length load.cells) ready
  pub waiting_low : (awaited : ℕ) → All (λ k. k < length load.cells) (those_for waiting awaited)

-- those that waited for a virtual channel are ready, and no longer wait for it
pub record AreWoken (left : ℕ) (ready ready' : List ℕ) (waiting waiting' : List (List ℕ)) : Type 0 where
  pub each : length waiting' ≡ length waiting
  pub still : (k : ℕ) → Contains ready k → Contains ready' k
  pub woken : (k : ℕ) → Contains (those_for waiting left) k → Contains ready' k
  pub others : (awaited : ℕ) → awaited ≢ left → those_for waiting' awaited ≡ those_for waiting awaited
  pub ready_low : (bound : ℕ) → All (λ k. k < bound) ready → All (λ k. k < bound) (those_for waiting left) → All (λ k. k < bound) ready'
  pub waiting_low : (bound awaited : ℕ) → All (λ k. k < bound) (those_for waiting awaited) → All (λ k. k < bound) (those_for waiting' awaited)

-- one move by the rule
abbrev pub IsMoveByRule : Topology → Plan → Load → Load → Type 0
IsMoveByRule t p old new = (v : VirtualChannel) × IsLeastMover t p old v × (new ≡ (advanced t p old v).1)
