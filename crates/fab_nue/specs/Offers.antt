-- Choices that stand in the heap of a search, at most one for each channel, and those that are put in.
use Rattle.std.specs.Prelude.{◌≡◌, ℕ, ◌<◌, ◌≤◌, ◌⊎◌, ◌==◌, List, length, Option, Contains, count_by}
use Rattle.fab_model.specs.Topology.{Topology, channel_id}
use Rattle.fab_tables.specs.Route.{tip}
use Rattle.fab_nue.specs.declared.choices.Choice.{Choice}
use Rattle.fab_nue.specs.Search.{tail, IsSettled}

-- how many choices have the channel
abbrev pub times_held : List Choice → ℕ → ℕ
times_held entries c = count_by (λ m. m.channel.0 == c) entries

-- channels of the fabric, each at most once
pub record HoldsOnce (t : Topology) (entries : List Choice) : Type 0 where
  pub once : (c : ℕ) → times_held entries c ≤ 1
  pub within : (m : Choice) → Contains entries m → m.channel.0 < length t.channels

-- To the old choices those of some channels were added: of each that leaves an unsettled switch, with its cost.
pub record Offers (t : Topology) (to : ℕ) (tree : List (Option ℕ)) (cost : ℕ → ℕ) (Some_of : ℕ → Type 0) (old new : List Choice) : Type 0 where
  pub holds : HoldsOnce t new
  pub kept : (m : Choice) → Contains old m → Contains new m
  pub offered : (c : ℕ) → Some_of c → ¬ IsSettled to tree (tail t c) → Contains new (record { weight = cost c; channel = channel_id c })
  pub only : (m : Choice) → Contains new m → Contains old m ⊎ (Some_of m.channel.0 × (m.weight ≡ cost m.channel.0))

-- a channel of the fabric that leads to the switch
abbrev pub LeadsInto : Topology → ℕ → ℕ → Type 0
LeadsInto t s c = (c < length t.channels) × (tip t c ≡ s)

-- no choice has a channel that leads to the switch
abbrev pub LeadElsewhere : Topology → ℕ → List Choice → Type 0
LeadElsewhere t s entries = (m : Choice) → Contains entries m → ¬ (tip t m.channel.0 ≡ s)
