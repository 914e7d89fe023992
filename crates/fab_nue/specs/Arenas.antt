-- Arenas lane by lane: what each lists, and what becomes of them when a tree is tried in one.
use Rattle.std.specs.Prelude.{◌≡◌, ◌≢◌, ℕ, ◌+◌, ◌<◌, ◌≤◌, ◌⊎◌, List, [], length, take, map, All, slice_get, option_map, unwrap_or}
use Rattle.fab_graph.specs.Walks.{SameGraph}
use Rattle.fab_model.specs.Topology.{Topology}
use Rattle.fab_tables.specs.TreeWalks.{DependsInTree}
use Rattle.fab_depgraph.specs.declared.dep.Dep.{Dep}
use Rattle.fab_depgraph.specs.declared.dep.Added.{Added}
use Rattle.fab_depgraph.specs.declared.dep.Added.TheVariants.{Yes, WouldClose}
use Rattle.fab_depgraph.specs.Listed.{Dependencies, IsListed}
use Rattle.fab_nue.specs.Search.{ClosesNone}
use Rattle.std.specs.Prelude.{Option}

-- what the arena of a lane lists, and its spare
abbrev pub listed_in : List Dependencies → ℕ → List Dep
listed_in used lane = unwrap_or (option_map (λ (g : Dependencies). g.listed) (slice_get used lane)) []

abbrev pub spare_in : List Dependencies → ℕ → ℕ
spare_in used lane = unwrap_or (option_map (λ (g : Dependencies). g.spare) (slice_get used lane)) 0

-- lane by lane how many channels there are
abbrev pub channel_counts : List Dependencies → List ℕ
channel_counts used = map (λ (g : Dependencies). g.channels) used

-- each arena has the fabric's channels
abbrev pub HaveChannels : Topology → List Dependencies → Type 0
HaveChannels t used = All (λ count. count ≡ length t.channels) (channel_counts used)

-- lane by lane the arenas list these graphs
abbrev pub AreListing : ℕ → (ℕ → ℕ → ℕ → Type 0) → List Dependencies → Type 0
AreListing lanes graph used = (on_lane : ℕ) → on_lane < lanes → SameGraph (IsListed (listed_in used on_lane)) (λ (c d : ℕ). graph on_lane c d)

-- no list is longer
abbrev pub AreShort : ℕ → List Dependencies → Type 0
AreShort most used = (on_lane : ℕ) → length (listed_in used on_lane) ≤ most

-- only the arena of this lane changed
pub record ChangesLane (lane : ℕ) (old new : List Dependencies) : Type 0 where
  pub channels : channel_counts new ≡ channel_counts old
  pub listed : (other : ℕ) → other ≢ lane → listed_in new other ≡ listed_in old other
  pub spare : (other : ℕ) → other ≢ lane → spare_in new other ≡ spare_in old other

-- the old list and behind it the dependencies of a tree, one more for each switch at most; they close no walk
pub record ListsTree (t : Topology) (tree : List (Option ℕ)) (old new : List Dep) : Type 0 where
  pub union : SameGraph (λ (c d : ℕ). IsListed old c d ⊎ DependsInTree t tree c d) (IsListed new)
  pub behind : take (length old) new ≡ old
  pub few : length new ≤ length old + length t.switches
  pub closes_none : ClosesNone t (IsListed old) tree

-- A tree was tried in a lane: its dependencies were added, or none since a walk would be closed.
pub record IsTried (t : Topology) (tree : List (Option ℕ)) (lane : ℕ) (old new : List Dependencies) (answer : Added) : Type 0 where
  pub changes : ChangesLane lane old new
  pub added : answer ≡ Yes → ListsTree t tree (listed_in old lane) (listed_in new lane)
  pub refused : answer ≡ WouldClose → (listed_in new lane ≡ listed_in old lane) × ¬ ClosesNone t (IsListed (listed_in old lane)) tree
