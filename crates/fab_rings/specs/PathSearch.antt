-- A search for the strongly connected components of a graph. Its open nodes stand in the order in which they were found, parted into groups.
use Rattle.std.specs.Prelude.{◌≡◌, ℕ, ◌+◌, ◌*◌, ◌<◌, ◌≤◌, ◌⊎◌, List, [], ◌∷◌, ◌++◌, length, take, All, Contains, slice_index_or, slice_set}
use Rattle.fab_graph.specs.Walks.{IsEdge}
use Rattle.fab_rings.specs.declared.strong_components.Group.{Group}
use Rattle.fab_rings.specs.EdgeList.{EdgeList, IsGraph}
use Rattle.fab_rings.specs.Neighbours.{successors_of}
use Rattle.fab_rings.specs.Layers.{times}
use Rattle.fab_rings.specs.StrongComponents.{Comes, value_of}

-- the state of a search
pub record PathSearched : Type 0 where
  pub graph : EdgeList
  pub places : List ℕ
  pub components : List ℕ
  pub opened : List ℕ
  pub groups : List Group
  pub heads : List ℕ
  pub closed : ℕ

-- x stands at the place k
abbrev pub HasAt : {A : Type 0} → List A → ℕ → A → Type 0
HasAt xs k x = (k < length xs) × (slice_index_or xs k x ≡ x)

-- the group of the place q is not before that of p
abbrev pub IsNoEarlier : List Group → ℕ → ℕ → Type 0
IsNoEarlier groups p q = (x : Group) → Contains groups x → x.first ≤ p → x.first ≤ q

-- the head at t is kept for the group of the place p, or a later one
abbrev pub IsKeptFor : List Group → ℕ → ℕ → Type 0
IsKeptFor groups p t = (x : Group) → Contains groups x → x.first ≤ p → x.below ≤ t

-- an edge from the open node at p to b is waiting, or it leads to a closed node or into the same group or a later one
abbrev pub IsLookedAt : PathSearched → ℕ → ℕ → Type 0
IsLookedAt s p b =
    (0 < value_of s.components b) ⊎ ((q : ℕ) × HasAt s.opened q b × IsNoEarlier s.groups p q) ⊎ ((t : ℕ) × HasAt s.heads t b × IsKeptFor s.groups p t)

-- the head at t is that of an edge which leaves the group for which it is kept
abbrev pub IsHeadFrom : PathSearched → ℕ → ℕ → Type 0
IsHeadFrom s t b =
    (a : ℕ) × (p : ℕ) × HasAt s.opened p a × IsEdge s.graph.edges a b × ((x : Group) → Contains s.groups x → (x.below ≤ t → x.first ≤ p) × (x.first ≤ p → x.below ≤ t))

-- A node is new, open or closed. Closed ones have the numbers of their components, from which edges lead to closed nodes alone. From each open node walks lead to all of its group and of later ones.
pub record IsPathSearch (s : PathSearched) : Type 0 where
  pub graph : IsGraph s.graph
  pub each_place : length s.places ≡ s.graph.nodes
  pub each_component : length s.components ≡ s.graph.nodes
  pub heads_low : All (λ b. b < s.graph.nodes) s.heads
  pub placed : (a p : ℕ) → HasAt s.opened p a → (value_of s.places a ≡ p + 1) × (value_of s.components a ≡ 0)
  pub is_open : (a : ℕ) → 0 < value_of s.places a → value_of s.components a ≡ 0 → (p : ℕ) × HasAt s.opened p a
  pub is_new : (a : ℕ) → value_of s.places a ≡ 0 → value_of s.components a ≡ 0
  pub low : (a : ℕ) → value_of s.components a ≤ s.closed
  pub few : s.closed + length s.groups + times 0 s.places ≤ s.graph.nodes
  pub reaches : (a b p q : ℕ) → HasAt s.opened p a → HasAt s.opened q b → IsNoEarlier s.groups p q → Comes (IsEdge s.graph.edges) a b
  pub looked : (a b p : ℕ) → HasAt s.opened p a → IsEdge s.graph.edges a b → IsLookedAt s p b
  pub leaves : (b t : ℕ) (y : Group) → HasAt s.heads t b → Contains s.groups y → y.below ≤ t → IsHeadFrom s t b
  pub falls : (a b : ℕ) → 0 < value_of s.components a → IsEdge s.graph.edges a b → (0 < value_of s.components b) × (value_of s.components b ≤ value_of s.components a)
  pub together : (a b : ℕ) → 0 < value_of s.components a → value_of s.components a ≡ value_of s.components b → Comes (IsEdge s.graph.edges) a b
  pub grouped : (p : ℕ) → p < length s.opened → (x : Group) × Contains s.groups x × (x.first ≤ p)
  pub ordered : (i j : ℕ) (x y : Group) → HasAt s.groups i x → HasAt s.groups j y → i ≤ j → (x.first ≤ y.first) × (x.below ≤ y.below)
  pub within : (x : Group) → Contains s.groups x → (x.first ≤ length s.opened) × (x.below ≤ length s.heads)
  pub waiting : (a : ℕ) → a < s.graph.nodes → (0 < value_of s.places a) ⊎ Contains s.heads a

-- the search with one more head
abbrev pub with_head : PathSearched → ℕ → PathSearched
with_head s head = record s { heads = s.heads ++ head ∷ [] }

-- this head was taken, which was not the last of a group to be closed
pub record HasTaken (s : PathSearched) (head : ℕ) : Type 0 where
  pub before : IsPathSearch (with_head s head)
  pub below : (x : Group) → Contains s.groups x → x.below ≤ length s.heads

-- how much is left to do, at most
abbrev pub work_left : PathSearched → ℕ
work_left s = times 0 s.places * (length s.graph.edges + 2) + length s.groups + length s.heads

-- the group is the last one
abbrev pub IsLast : List Group → Group → Type 0
IsLast groups y = (front : List Group) × (groups ≡ front ++ y ∷ [])

-- all edges that leave the last group were looked at
abbrev pub IsLastDone : PathSearched → Type 0
IsLastDone s = (y : Group) × IsLast s.groups y × (y.below ≡ length s.heads)

-- a new node is open, in a group of its own
abbrev pub with_found : PathSearched → ℕ → PathSearched
with_found s a = record s {
  places = slice_set s.places a (length s.opened + 1);
  opened = s.opened ++ a ∷ [];
  groups = s.groups ++ (record { first = length s.opened; below = length s.heads }) ∷ [];
  heads = s.heads ++ successors_of s.graph.edges a;
}

-- the last group is closed, with these components
abbrev pub with_closed : PathSearched → List Group → Group → List ℕ → PathSearched
with_closed s front y new = record s { components = new; opened = take y.first s.opened; groups = front; closed = s.closed + 1 }

-- the groups that begin after this place are joined with the one before them
pub record AreJoined (old new : List Group) (place : ℕ) : Type 0 where
  pub rest : List Group
  pub is : old ≡ new ++ rest
  pub later : (x : Group) → Contains rest x → place < x.first
  pub last : (y : Group) → IsLast new y → y.first ≤ place

-- these nodes have this number, and the others what they had
pub record AreNumbered (nodes : List ℕ) (number : ℕ) (old new : List ℕ) : Type 0 where
  pub each : length new ≡ length old
  pub given : (a : ℕ) → Contains nodes a → value_of new a ≡ number
  pub others : (a : ℕ) → (value_of new a ≡ value_of old a) ⊎ Contains nodes a
