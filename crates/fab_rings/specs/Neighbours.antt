-- The edges of a graph, node by node.
use Rattle.std.specs.Prelude.{◌≡◌, ℕ, ◌<◌, ◌==◌, List, [], length, map, filter, slice_index_or}

-- the heads of the edges that leave a node, one for each edge
abbrev pub successors_of : List (ℕ × ℕ) → ℕ → List ℕ
successors_of edges a = map (λ (e : ℕ × ℕ). e.1) (filter (λ (e : ℕ × ℕ). e.0 == a) edges)

-- the tails of the edges that lead to a node
abbrev pub predecessors_of : List (ℕ × ℕ) → ℕ → List ℕ
predecessors_of edges b = map (λ (e : ℕ × ℕ). e.0) (filter (λ (e : ℕ × ℕ). e.1 == b) edges)

-- a list for each node
pub record AreNeighbours (nodes : ℕ) (neighbours_of : ℕ → List ℕ) (lists : List (List ℕ)) : Type 0 where
  pub whole : length lists ≡ nodes
  pub each : (a : ℕ) → a < nodes → slice_index_or lists a [] ≡ neighbours_of a
