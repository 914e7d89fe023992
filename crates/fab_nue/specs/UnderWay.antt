-- A search under way: its tree so far, the arena with the dependencies of that tree, and the heap.
use Rattle.std.specs.Prelude.{◌≡◌, ℕ, ◌+◌, ◌*◌, ◌-◌, ◌≤◌, List, length, Option, Contains}
use Rattle.fab_graph.specs.Walks.{IsAcyclic}
use Rattle.fab_model.specs.Topology.{Topology, channel_id}
use Rattle.fab_tables.specs.Route.{tip}
use Rattle.fab_depgraph.specs.Listed.{Dependencies, IsListed}
use Rattle.fab_nue.specs.declared.choices.Choice.{Choice}
use Rattle.fab_nue.specs.Search.{IsSettled, IsCandidate, way_weight, ComesTo}
use Rattle.fab_nue.specs.Laws.{settled_count}
use Rattle.fab_nue.specs.Added.{AddsTree}
use Rattle.fab_nue.specs.Offers.{HoldsOnce}

-- a channel with the weight of its way
abbrev pub choice_of : Topology → (ℕ → ℕ) → List (Option ℕ) → ℕ → Choice
choice_of t weight tree c = record { weight = way_weight t weight tree c; channel = channel_id c }

-- an entry's channel leads to a settled switch, and has its way's weight
abbrev pub IsWeighed : Topology → (ℕ → ℕ) → ℕ → List (Option ℕ) → Choice → Type 0
IsWeighed t weight to tree m = IsSettled to tree (tip t m.channel.0) × (m.weight ≡ way_weight t weight tree m.channel.0)

pub record HoldsCandidates (t : Topology) (weight : ℕ → ℕ) (used : ℕ → ℕ → Type 0) (to : ℕ) (tree : List (Option ℕ)) (entries : List Choice) : Type 0 where
  pub each : (c : ℕ) → IsCandidate t used to tree c → Contains entries (choice_of t weight tree c)
  pub weighed : (m : Choice) → Contains entries m → IsWeighed t weight to tree m

-- From the dependencies in use at the start so many steps led to the tree. Its own were added behind them, and every candidate stands in the heap.
pub record IsUnderWay (t : Topology) (weight : ℕ → ℕ) (to : ℕ) (start now : Dependencies) (tree : List (Option ℕ)) (entries : List Choice) : Type 0 where
  pub acyclic : IsAcyclic (IsListed start.listed)
  pub spare : length t.switches ≤ start.spare
  pub steps : ℕ
  pub run : ComesTo t weight (IsListed start.listed) to steps tree
  pub adds : AddsTree t tree start now
  pub candidates : HoldsCandidates t weight (IsListed start.listed) to tree entries
  pub once : HoldsOnce t entries

-- it falls with each choice that is taken out: those that stand there, and as many as there are channels for each switch without a channel
abbrev pub still_to_do : Topology → List (Option ℕ) → List Choice → ℕ
still_to_do t tree entries = (length t.switches - settled_count tree) * (length t.channels + 1) + length entries
