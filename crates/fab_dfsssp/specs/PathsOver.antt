-- The paths over an edge, and those on which it stands behind so many channels.
use Rattle.std.specs.Prelude.{◌≡◌, ℕ, suc, ◌<◌, ◌⊎◌, List, length, Contains, Some, true, slice_get}
use Rattle.fab_model.specs.Topology.{Topology, lids_of}
use Rattle.fab_tables.specs.Entries.{Entries}
use Rattle.fab_tables.specs.Route.{tip, route}
use Rattle.fab_dfsssp.specs.declared.paths_over.Path.{Path}
use Rattle.fab_dfsssp.specs.Assignments.{contains_edge}

-- the path begins at a switch of the fabric, and its LID is in use
abbrev pub IsPathOf : Topology → Path → Type 0
IsPathOf t p = (p.from.0 < length t.switches) × Contains (lids_of t) p.lid.0

-- the list has the path from the switch to the LID
abbrev pub HasPath : List Path → ℕ → ℕ → Type 0
HasPath paths s lid = (p : Path) × Contains paths p × (p.from.0 ≡ s) × (p.lid.0 ≡ lid)

pub record ArePathsOver (t : Topology) (e : Entries) (edge : ℕ × ℕ) (paths : List Path) : Type 0 where
  pub sound : (p : Path) → Contains paths p → IsPathOf t p × (contains_edge edge (route t e p.from.0 p.lid.0).channels ≡ true)
  pub complete : (s lid : ℕ) → Contains (lids_of t) lid → contains_edge edge (route t e s lid).channels ≡ true → HasPath paths s lid

-- on the route the edge stands behind so many channels
abbrev pub StandsAt : Topology → Entries → ℕ × ℕ → ℕ → ℕ → ℕ → Type 0
StandsAt t e edge place s lid = (slice_get (route t e s lid).channels place ≡ Some edge.0) × (slice_get (route t e s lid).channels (suc place) ≡ Some edge.1)

-- they are all the paths on which it does
pub record AreLayer (t : Topology) (e : Entries) (edge : ℕ × ℕ) (place : ℕ) (paths : List Path) : Type 0 where
  pub sound : (p : Path) → Contains paths p → IsPathOf t p × StandsAt t e edge place p.from.0 p.lid.0
  pub complete : (s lid : ℕ) → Contains (lids_of t) lid → StandsAt t e edge place s lid → HasPath paths s lid

-- the first channel of the path leads to a switch
abbrev pub BeginsToward : Topology → Entries → ℕ → ℕ → ℕ → Type 0
BeginsToward t e s lid to = (c : ℕ) × (slice_get (route t e s lid).channels 0 ≡ Some c) × (tip t c ≡ to)

-- all paths are added that come to the switch of this one by their first channel, and lead to its LID
pub record AddsBehind (t : Topology) (e : Entries) (path : Path) (old new : List Path) : Type 0 where
  pub still : (p : Path) → Contains old p → Contains new p
  pub only : (p : Path) → Contains new p → Contains old p ⊎ ((p.from.0 < length t.switches) × (p.lid.0 ≡ path.lid.0) × BeginsToward t e p.from.0 p.lid.0 path.from.0)
  pub there : (s : ℕ) → BeginsToward t e s path.lid.0 path.from.0 → HasPath new s path.lid.0
