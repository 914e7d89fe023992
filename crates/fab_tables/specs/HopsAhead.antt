-- What an iterator over the virtual channels of a route has before it.
use Rattle.std.specs.Prelude.{◌≡◌, ℕ, ◌<◌, length, All, List, [], ◌∷◌, Option, MatchOption}
use Rattle.fab_model.specs.Topology.{Topology}
use Rattle.fab_model.specs.WellFormed.{IsFabric}
use Rattle.fab_tables.specs.declared.verdict.VirtualChannel.{VirtualChannel}
use Rattle.fab_tables.specs.LaneTables.{LaneTables}
use Rattle.fab_tables.specs.Fit.{LanesFit}
use Rattle.fab_tables.specs.VirtualChannels.{on_channels}

pub record HopsAhead : Type 0 where
  pub hops : List VirtualChannel  -- the virtual channels that are still to come

-- behind a port by which the packets came, with these channels to go
abbrev pub hops_ahead : Topology → LaneTables → ℕ → ℕ → List ℕ → HopsAhead
hops_ahead t l of_level from channels = record { hops = on_channels t l of_level from channels }

-- the channels are those of a fabric, and the lanes are over that fabric
pub record CanTakeLanes (t : Topology) (l : LaneTables) (of_level : ℕ) (channels : List ℕ) : Type 0 where
  pub kept : IsFabric t
  pub fits : LanesFit t l
  pub level : of_level < 16
  pub channels_kept : All (λ c. c < length t.channels) channels

-- a call gives the first of them, or None where none is left
abbrev pub TakesHop : HopsAhead → Option VirtualChannel → HopsAhead → Type 0
TakesHop old result new = MatchOption result ((old.hops ≡ []) × (new ≡ old)) (λ hop. old.hops ≡ hop ∷ new.hops)
