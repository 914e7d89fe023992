-- The escape trees of all lanes, and the escape dependencies of the switches so far.
use Rattle.std.specs.Prelude.{◌≡◌, ℕ, ◌%◌, ◌<◌, List, [], length, slice_index_or}
use Rattle.fab_model.specs.Topology.{Topology}
use Rattle.fab_tables.specs.TreeWalks.{DependsInTree}
use Rattle.fab_escape.specs.Forest.{Forest, escape_tree}
use Rattle.fab_escape.specs.Trees.{IsEscapeForest}

-- the forest of a lane; one of no switch past the lanes
abbrev pub forest_in : List Forest → ℕ → Forest
forest_in forests lane = slice_index_or forests lane (record { roots = []; links = [] })

-- those of the first lanes
pub record AreForests (t : Topology) (lanes : ℕ) (forests : List Forest) : Type 0 where
  pub each_lane : length forests ≡ lanes
  pub right : (lane : ℕ) → lane < lanes → IsEscapeForest t lane (forest_in forests lane)

-- the dependencies of the whole escape trees towards the first switches, each in the lane at home there
abbrev pub DependsTowards : Topology → ℕ → (ℕ → Forest) → ℕ → ℕ → ℕ → ℕ → Type 0
DependsTowards t lanes forest before on_lane c d = (s : ℕ) × (s < before) × (s % lanes ≡ on_lane) × DependsInTree t (escape_tree (forest on_lane) s) c d
