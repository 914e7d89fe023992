-- The strongly connected components of a graph: two nodes are in one where walks lead from each to the other.
use Rattle.std.specs.Prelude.{◌≡◌, ℕ, ◌<◌, ◌≤◌, List, length, slice_index_or}
use Rattle.fab_graph.specs.Walks.{Walk, IsEdge}
use Rattle.fab_rings.specs.EdgeList.{EdgeList}

-- a walk of any number of edges leads from a to b
abbrev pub Comes : (ℕ → ℕ → Type 0) → ℕ → ℕ → Type 0
Comes R a b = (n : ℕ) × Walk R n a b

-- the value of a node in a list with one for each, 0 where it has none
abbrev pub value_of : List ℕ → ℕ → ℕ
value_of values a = slice_index_or values a 0

-- Each node has the number of its component, from 1. Numbers never rise along an edge, and walks lead between any two nodes with the same one.
pub record AreStrongComponents (g : EdgeList) (components : List ℕ) : Type 0 where
  pub each : length components ≡ g.nodes
  pub some : (a : ℕ) → a < g.nodes → 0 < value_of components a
  pub falls : (a b : ℕ) → IsEdge g.edges a b → value_of components b ≤ value_of components a
  pub together : (a b : ℕ) → 0 < value_of components a → value_of components a ≡ value_of components b → Comes (IsEdge g.edges) a b
