-- How near the nodes of a graph are to one of them, found by distance.
use Rattle.std.specs.Prelude.{◌≡◌, ℕ, ◌+◌, ◌<◌, ◌≤◌, ◌⊎◌, List, [], ◌∷◌, ◌++◌, length, slice_index_or}
use Rattle.fab_graph.specs.Walks.{Walk, IsEdge}
use Rattle.fab_graph.specs.Rings.{Returns, IsNearness, ReturnsByLeast}
use Rattle.fab_rings.specs.EdgeList.{EdgeList}
use Rattle.fab_rings.specs.Layers.{times}

-- the nearness of a node, 0 where none is found
abbrev pub near_of : List ℕ → ℕ → ℕ
near_of near a = slice_index_or near a 0

-- what has a number has its nearness to the end, and from all others no walk leads there
pub record AreNear (g : EdgeList) (end : ℕ) (near : List ℕ) : Type 0 where
  pub each : length near ≡ g.nodes
  pub right : (a : ℕ) → 0 < near_of near a → IsNearness (IsEdge g.edges) end a (near_of near a)
  pub others : (a n : ℕ) → near_of near a ≡ 0 → ¬ Returns (IsEdge g.edges) end a n

-- the node is one edge nearer than this distance
abbrev pub IsBefore : ℕ → List ℕ → ℕ → ℕ → Type 0
IsBefore end near distance a = ((distance ≡ 1) × (a ≡ end)) ⊎ ((0 < near_of near a) × (near_of near a + 1 ≡ distance))

-- The nodes at this distance are being found: from the nodes before it, the rest of which are still to be looked at, edges lead back to them.
pub record IsReaching (g : EdgeList) (end : ℕ) (near rest next : List ℕ) (distance : ℕ) : Type 0 where
  pub each : length near ≡ g.nodes
  pub some : 0 < distance
  pub right : (a : ℕ) → 0 < near_of near a → IsNearness (IsEdge g.edges) end a (near_of near a)
  pub low : (a : ℕ) → near_of near a ≤ distance
  pub found : (a n : ℕ) → 0 < n → n < distance → Walk (IsEdge g.edges) n a end → (0 < near_of near a) × (near_of near a ≤ n)
  pub looked : (a b : ℕ) → IsBefore end near distance b → IsEdge g.edges a b → (0 < times b rest) ⊎ (0 < near_of near a)
  pub rest_before : (b : ℕ) → 0 < times b rest → IsBefore end near distance b
  pub next_at : (a : ℕ) → near_of near a ≡ distance → 0 < times a next
  pub at_next : (a : ℕ) → 0 < times a next → near_of near a ≡ distance

-- those of the tails that had no number have this distance, and stand in the next layer
pub record ReachesTails (tails : List ℕ) (distance : ℕ) (old_near new_near old_next new_next : List ℕ) : Type 0 where
  pub each : length new_near ≡ length old_near
  pub kept : (a : ℕ) → 0 < near_of old_near a → near_of new_near a ≡ near_of old_near a
  pub given : (a : ℕ) → near_of old_near a ≡ 0 → 0 < times a tails → near_of new_near a ≡ distance
  pub others : (a : ℕ) → near_of old_near a ≡ 0 → times a tails ≡ 0 → near_of new_near a ≡ 0
  pub next_kept : (a : ℕ) → 0 < times a old_next → 0 < times a new_next
  pub next_given : (a : ℕ) → near_of old_near a ≡ 0 → 0 < near_of new_near a → 0 < times a new_next
  pub next_only : (a : ℕ) → 0 < times a new_next → (0 < times a old_next) ⊎ ((near_of old_near a ≡ 0) × (0 < near_of new_near a))
  pub fewer : times 0 new_near + length new_next ≡ times 0 old_near + length old_next

-- the node is one of these, and at this distance
abbrev pub StandsAtDistance : List ℕ → List ℕ → ℕ → ℕ → Type 0
StandsAtDistance nodes near distance a = (0 < times a nodes) × (near_of near a ≡ distance)

-- the ring so far ends at this node, which is at this distance
pub record IsRingSoFar (edges : List (ℕ × ℕ)) (first : ℕ) (near ring : List ℕ) (node distance : ℕ) : Type 0 where
  pub at : near_of near node ≡ distance
  pub some : 0 < distance
  pub front : List ℕ
  pub is : ring ≡ front ++ node ∷ []
  pub returns : (rest : List ℕ) → ReturnsByLeast (IsEdge edges) first (node ∷ rest) → ReturnsByLeast (IsEdge edges) first (front ++ node ∷ rest)
  pub begins : (rest : List ℕ) × (ring ≡ first ∷ rest)
