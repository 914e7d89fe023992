-- Edges with counts, and the neighbours of each node.
use Rattle.std.specs.Prelude.{◌≡◌, ℕ, ◌<◌, ◌&&◌, Bool, List, [], length, nat_eq, slice_index_or, if◌then◌else◌}
use Rattle.std.specs.HashMap.{get}
use Rattle.std.specs.Option.{unwrap_or}
use Rattle.fab_graph.specs.Walks.{IsEdge, SameGraph}
use Rattle.fab_rings.specs.EdgeList.{EdgeList}
use Rattle.fab_rings.specs.Layers.{times}
use Rattle.fab_dfsssp.specs.declared.counted_edges.CountedEdges.{CountedEdges}

abbrev pub same_edge : ℕ × ℕ → ℕ × ℕ → Bool
same_edge x y = nat_eq x.0 y.0 && nat_eq x.1 y.1

-- the count of an edge
abbrev pub times_of : CountedEdges → ℕ × ℕ → ℕ
times_of e edge = unwrap_or (get same_edge e.times edge) 0

-- 1 at one edge, and 0 at all others
abbrev pub one_at : ℕ × ℕ → ℕ × ℕ → ℕ
one_at edge other = if same_edge edge other then 1 else 0

-- the edges are those with a count
abbrev pub IsCounted : CountedEdges → ℕ → ℕ → Type 0
IsCounted e a b = 0 < times_of e (a, b)

abbrev pub HasNoEdge : CountedEdges → Type 0
HasNoEdge e = (edge : ℕ × ℕ) → times_of e edge ≡ 0

-- the list of a node
abbrev pub list_at : List (List ℕ) → ℕ → List ℕ
list_at lists node = slice_index_or lists node []

-- a list for each node has just those to which it is related
pub record AreListed (lists : List (List ℕ)) (nodes : ℕ) (R : ℕ → ℕ → Type 0) : Type 0 where
  pub each : length lists ≡ nodes
  pub there : (a b : ℕ) → R a b → 0 < times b (list_at lists a)
  pub only : (a b : ℕ) → 0 < times b (list_at lists a) → R a b

-- edges join nodes, and stand in the lists of both
pub record IsWhole (e : CountedEdges) : Type 0 where
  pub ends : (a b : ℕ) → IsCounted e a b → (a < length e.heads) × (b < length e.heads)
  pub heads : AreListed e.heads (length e.heads) (λ a b. IsCounted e a b)
  pub tails : AreListed e.tails (length e.heads) (λ b a. IsCounted e a b)

-- a list of the same edges
pub record IsListing (g : EdgeList) (e : CountedEdges) : Type 0 where
  pub nodes : g.nodes ≡ length e.heads
  pub same : SameGraph (IsEdge g.edges) (λ a b. IsCounted e a b)
