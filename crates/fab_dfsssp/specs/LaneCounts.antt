-- The counts of a lane's edges: how many paths of the lane contain each.
use Rattle.std.specs.Prelude.{◌≡◌, ℕ, ◌+◌, List, [], ◌∷◌, length}
use Rattle.fab_model.specs.Topology.{Topology}
use Rattle.fab_tables.specs.Entries.{Entries}
use Rattle.fab_tables.specs.LaneTables.{LaneTables}
use Rattle.fab_dfsssp.specs.declared.counted_edges.CountedEdges.{CountedEdges}
use Rattle.fab_dfsssp.specs.CountedEdges.{times_of, one_at, IsWhole}
use Rattle.fab_dfsssp.specs.LevelPaths.{level_paths_over}

-- how often an edge stands along a list of channels
abbrev pub times_along : ℕ × ℕ → List ℕ → ℕ
times_along edge [] = 0
times_along edge (c ∷ []) = 0
times_along edge (c ∷ d ∷ rest) = one_at (c, d) edge + times_along edge (d ∷ rest)

-- the nodes are the channels, and an edge counts the paths of this level that contain it
pub record CountsLane (t : Topology) (e : Entries) (l : LaneTables) (lane : ℕ) (edges : CountedEdges) : Type 0 where
  pub whole : IsWhole edges
  pub nodes : length edges.heads ≡ length t.channels
  pub counts : (edge : ℕ × ℕ) → times_of edges edge ≡ level_paths_over t e l lane edge
