-- Where the dependencies of a pair go.
use Rattle.std.specs.Prelude.{◌≡◌, ◌≢◌, ℕ, ◌+◌, ◌<◌, ◌^◌, Bool, true, false, List, [], length, map, take, All, slice_get, option_map, unwrap_or}
use Rattle.fab_graph.specs.Walks.{HasClosedWalk, IsAcyclic}
use Rattle.fab_model.specs.Topology.{Topology}
use Rattle.fab_tables.specs.Entries.{Entries}
use Rattle.fab_depgraph.specs.declared.dep.Dep.{Dep}
use Rattle.fab_depgraph.specs.Listed.{Dependencies, IsListed, IsWithin}
use Rattle.fab_lash.specs.declared.layered.LashFault.{LashFault}
use Rattle.fab_lash.specs.declared.layered.LashFault.TheVariants.{NeedsLane, Memory}
use Rattle.fab_lash.specs.Pairs.{IsPair, DependsOnPair}
use Rattle.fab_lash.specs.Adding.{with_deps, ListsOnce}
use Rattle.fab_lash.specs.Followers.{pair_dependencies}

-- what the arena of a lane lists
abbrev pub listed_in : List Dependencies → ℕ → List Dep
listed_in used lane = unwrap_or (option_map (λ (g : Dependencies). g.listed) (slice_get used lane)) []

-- lane by lane how many channels there are
abbrev pub channel_counts : List Dependencies → List ℕ
channel_counts used = map (λ (g : Dependencies). g.channels) used

-- the dependencies are of channels that every arena has
abbrev pub FitInto : List Dependencies → List Dep → Type 0
FitInto used deps = All (λ channels. All (λ d. IsWithin channels d) deps) (channel_counts used)

-- each arena could list all of them besides, by their number
abbrev pub HaveRoom : List Dependencies → List Dep → Type 0
HaveRoom used deps = (lane : ℕ) → length (listed_in used lane) + length deps < 2 ^ 32

-- with some of them a walk is closed
abbrev pub Refuses : List Dep → List Dep → Type 0
Refuses listed deps = (n : ℕ) × HasClosedWalk (IsListed (with_deps listed (take n deps)))

-- all of them are there, and no walk is closed
abbrev pub Takes : List Dep → List Dep → List Dep → Type 0
Takes old new deps = (new ≡ with_deps old deps) × IsAcyclic (IsListed new)

-- the other lanes list what they did
abbrev pub KeepsOthers : ℕ → List Dependencies → List Dependencies → Type 0
KeepsOthers lane old new = (other : ℕ) → other ≢ lane → listed_in new other ≡ listed_in old other

-- the dependencies were tried in a lane, which took all or none
pub record IsTried (lane : ℕ) (old new : List Dependencies) (deps : List Dep) (took : Bool) : Type 0 where
  pub channels : channel_counts new ≡ channel_counts old
  pub others : KeepsOthers lane old new
  pub taken : took ≡ true → Takes (listed_in old lane) (listed_in new lane) deps
  pub refused : took ≡ false → (listed_in new lane ≡ listed_in old lane) × Refuses (listed_in old lane) deps

-- the first lane that takes them has them now
pub record IsPlaced (old new : List Dependencies) (deps : List Dep) (lane : ℕ) : Type 0 where
  pub low : lane < length old
  pub channels : channel_counts new ≡ channel_counts old
  pub others : KeepsOthers lane old new
  pub taken : Takes (listed_in old lane) (listed_in new lane) deps
  pub refused : (other : ℕ) → other < lane → Refuses (listed_in old other) deps

-- no lane takes them
abbrev pub IsNowhere : List Dependencies → List Dep → Type 0
IsNowhere old deps = (lane : ℕ) → lane < length old → Refuses (listed_in old lane) deps

-- dependencies of pairs and no other, each once
pub record ListsPairs (t : Topology) (e : Entries) (listed : List Dep) : Type 0 where
  pub once : ListsOnce listed
  pub of_pairs : (c d : ℕ) → IsListed listed c d → (a b : ℕ) × IsPair t a b × DependsOnPair t e a b c d

-- the dependencies of a pair are in the first lane that takes them, and where the switches are no pair nothing changed
pub record IsPlacedPair (t : Topology) (e : Entries) (low high : ℕ) (old new : List Dependencies) (lane : ℕ) : Type 0 where
  pub placed : IsPair t low high → IsPlaced old new (pair_dependencies t e low high) lane
  pub other : ¬ IsPair t low high → new ≡ old

-- no lane takes those of the pair
abbrev pub FitsNowhere : Topology → Entries → ℕ → ℕ → List Dependencies → LashFault → Type 0
FitsNowhere t e low high old (NeedsLane one other) = (one.0 ≡ low) × (other.0 ≡ high) × IsPair t low high × IsNowhere old (pair_dependencies t e low high)
FitsNowhere t e low high old (Memory refused) = Unit {0}
