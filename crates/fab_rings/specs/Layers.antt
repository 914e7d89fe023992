-- The nodes of a graph taken layer by layer: a node is taken once all its predecessors are, and its level is the number of its layer.
use Rattle.std.specs.Prelude.{◌≡◌, ℕ, ◌+◌, ◌<◌, ◌≤◌, ◌==◌, ◌&&◌, List, length, count_by, slice_index_or, if◌then◌else◌, nat_lt}
use Rattle.fab_graph.specs.Walks.{IsEdge}
use Rattle.fab_rings.specs.EdgeList.{EdgeList}

-- the level of a node, 0 where it is not taken
abbrev pub level_of : List ℕ → ℕ → ℕ
level_of levels a = slice_index_or levels a 1

-- how many edges from nodes that are not taken lead to a node
abbrev pub edges_left : List (ℕ × ℕ) → List ℕ → ℕ → ℕ
edges_left edges levels b = count_by (λ (e : ℕ × ℕ). (e.1 == b) && (level_of levels e.0 == 0)) edges

-- the same, as a list that is kept
abbrev pub left_of : List ℕ → ℕ → ℕ
left_of left b = slice_index_or left b 0

-- how often a number stands in a list
abbrev pub times : ℕ → List ℕ → ℕ
times n ns = count_by (λ m. m == n) ns

-- how many nodes are not taken
abbrev pub untaken : List ℕ → ℕ
untaken levels = times 0 levels

-- a node is ready that is not taken, and to which no edge from others that are not taken leads
abbrev pub times_ready : ℕ → ℕ → ℕ
times_ready level left = if (level == 0) && (left == 0) then 1 else 0

-- the layer of this number is being taken: the rest of it is still to be taken, and the next one grows
pub record IsTaking (g : EdgeList) (levels left rest next : List ℕ) (layer : ℕ) : Type 0 where
  pub each_level : length levels ≡ g.nodes
  pub each_left : length left ≡ g.nodes
  pub some_layer : 0 < layer
  pub counts : (b : ℕ) → left_of left b ≡ edges_left g.edges levels b
  pub ready : (b : ℕ) → times b rest + times b next ≡ times_ready (level_of levels b) (left_of left b)
  pub rises : (a b : ℕ) → IsEdge g.edges a b → 0 < level_of levels b → (0 < level_of levels a) × (level_of levels a < level_of levels b)
  pub attained : (b : ℕ) → 1 < level_of levels b → (a : ℕ) × IsEdge g.edges a b × (level_of levels b ≡ level_of levels a + 1)
  pub low : (b : ℕ) → level_of levels b ≤ layer
  pub rest_rises : (a b : ℕ) → 0 < times b rest → IsEdge g.edges a b → (0 < level_of levels a) × (level_of levels a < layer)
  pub rest_attains : (b : ℕ) → 0 < times b rest → 1 < layer → (a : ℕ) × IsEdge g.edges a b × (layer ≡ level_of levels a + 1)
  pub next_attains : (b : ℕ) → 0 < times b next → (a : ℕ) × IsEdge g.edges a b × (level_of levels a ≡ layer)

-- Levels are given to the nodes behind no closed walk. Each other node has 0, and a predecessor that has 0.
pub record AreLayers (g : EdgeList) (levels : List ℕ) : Type 0 where
  pub each : length levels ≡ g.nodes
  pub rises : (a b : ℕ) → IsEdge g.edges a b → 0 < level_of levels b → (0 < level_of levels a) × (level_of levels a < level_of levels b)
  pub attained : (b : ℕ) → 1 < level_of levels b → (a : ℕ) × IsEdge g.edges a b × (level_of levels b ≡ level_of levels a + 1)
  pub others : (b : ℕ) → level_of levels b ≡ 0 → (a : ℕ) × IsEdge g.edges a b × (level_of levels a ≡ 0)

-- whether the last edges are gone
abbrev pub times_freed : ℕ → ℕ → ℕ
times_freed old new = if (new == 0) && nat_lt 0 old then 1 else 0

-- the edges to these successors are gone, and the nodes whose last edge went are ready
pub record TakesEdges (successors old_left new_left old_next new_next : List ℕ) : Type 0 where
  pub each_left : length new_left ≡ length old_left
  pub gone : (b : ℕ) → left_of new_left b + times b successors ≡ left_of old_left b
  pub freed : (b : ℕ) → times b new_next ≡ times b old_next + times_freed (left_of old_left b) (left_of new_left b)
