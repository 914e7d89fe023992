-- How near the nodes around a ring are to its first one.
use Rattle.std.specs.Prelude.{◌≡◌, ℕ, ◌<◌, ◌≤◌, List, length}
use Rattle.fab_graph.specs.Walks.{Walk, IsEdge, IsOnClosedWalk}
use Rattle.fab_graph.specs.Rings.{IsNearness}
use Rattle.fab_rings.specs.EdgeList.{EdgeList}
use Rattle.fab_rings.specs.Nearness.{near_of}

-- What has a number has its nearness to the end. All that is as near as the end is to itself has one, and the end has none just where no closed walk leads through it.
pub record AreNearAround (g : EdgeList) (end : ℕ) (near : List ℕ) : Type 0 where
  pub each : length near ≡ g.nodes
  pub right : (a : ℕ) → 0 < near_of near a → IsNearness (IsEdge g.edges) end a (near_of near a)
  pub found : (a n : ℕ) → 0 < n → n ≤ near_of near end → Walk (IsEdge g.edges) n a end → (0 < near_of near a) × (near_of near a ≤ n)
  pub none : near_of near end ≡ 0 → ¬ IsOnClosedWalk (IsEdge g.edges) end
