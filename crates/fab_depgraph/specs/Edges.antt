-- Edges with counts, in slots that are linked channel by channel.
use Rattle.std.specs.Prelude.{◌≡◌, ◌≢◌, ◌⊎◌, ℕ, zero, suc, ◌+◌, ◌-◌, ◌<◌, ◌≤◌, ◌==◌, List, [], ◌∷◌, map, length, Option, Some, None, is_some, Bool, true, false, drop, count_by, slice_index_or, slice_set, if◌then◌else◌, nat_le, All}
use Rattle.std.specs.List.{sum_by}
use Rattle.fab_model.specs.declared.rows.ChannelId.{ChannelId}
use Rattle.fab_model.specs.Topology.{channel_id}
use Rattle.fab_depgraph.specs.declared.edges.Edge.{Edge}

-- the successors of a channel, the newest first: the second channel of each edge, and how often it was added
abbrev pub Row : Type 0
Row = List (ℕ × ℕ)

-- the second channels of a row
abbrev pub channels_of : Row → List ChannelId
channels_of row = map (λ edge. channel_id edge.0) row

-- the rows of all channels, and how many edges fit without memory
pub record EdgeRows : Type 0 where
  pub rows : List Row
  pub capacity : ℕ

abbrev pub row_at : List Row → ℕ → Row
row_at rows first = slice_index_or rows first []

-- how many edges there are
abbrev pub edge_count : List Row → ℕ
edge_count rows = sum_by length rows

-- how often the edge to a channel was added
abbrev pub times_in : Row → ℕ → ℕ
times_in [] second = 0
times_in ((other, count) ∷ row) second = if other == second then count else times_in row second

-- whether there is an edge to a channel
abbrev pub leads_to : Row → ℕ → Bool
leads_to [] second = false
leads_to ((other, count) ∷ row) second = if other == second then true else leads_to row second

-- the row with another count of the edge to a channel
abbrev pub with_count : (ℕ → ℕ) → Row → ℕ → Row
with_count change [] second = []
with_count change ((other, count) ∷ row) second = if other == second then (other, change count) ∷ row else (other, count) ∷ with_count change row second

-- the row once an edge to a channel was added
abbrev pub raised : Row → ℕ → Row
raised row second = if leads_to row second then with_count (λ n. n + 1) row second else (second, 1) ∷ row

-- the row once an edge to a channel was taken back
abbrev pub lowered : Row → ℕ → Row
lowered row second = if nat_le (times_in row second) 1 then drop 1 row else with_count (λ n. n - 1) row second

-- each edge was added at least once
abbrev pub AreCounted : List Row → Type 0
AreCounted rows = All (λ row. All (λ edge. 0 < edge.1) row) rows

abbrev pub with_raised : List Row → ℕ → ℕ → List Row
with_raised rows first second = slice_set rows first (raised (row_at rows first) second)

abbrev pub with_lowered : List Row → ℕ → ℕ → List Row
with_lowered rows first second = slice_set rows first (lowered (row_at rows first) second)

-- an edge that can be taken back: it was added several times, or it is the newest of its channel
abbrev pub CanBeLowered : Row → ℕ → Type 0
CanBeLowered row second = (1 < times_in row second) ⊎ ((rest : Row) × (row ≡ (second, 1) ∷ rest))

abbrev pub Slots : Type 0
Slots = List (Option Edge)

-- the edge at a key
abbrev pub slot : Slots → ℕ → Option Edge
slot slots key = slice_index_or slots key None

-- the edges at these keys are linked, from this key on
abbrev pub IsChain : Slots → Option ℕ → List ℕ → Type 0
IsChain slots at [] = at ≡ None
IsChain slots at (key ∷ keys) = (edge : Edge) × (at ≡ Some key) × (slot slots key ≡ Some edge) × IsChain slots edge.next keys

-- a first edge, and the row of those behind it
abbrev pub edge_before : Option Edge → (Option ℕ → Row) → Row
edge_before None rest = []
edge_before (Some edge) rest = (edge.second.0, edge.count) ∷ rest edge.next

-- the row of the edges that are linked from a key on, and are at most so many
abbrev pub linked_row : ℕ → Slots → Option ℕ → Row
linked_row zero slots at = []
linked_row (suc n) slots None = []
linked_row (suc n) slots (Some key) = edge_before (slot slots key) (linked_row n slots)

-- the rows of all channels, whose newest edges have these keys
abbrev pub rows_in : Slots → List (Option ℕ) → List Row
rows_in slots newest = map (linked_row (count_by is_some slots) slots) newest

-- how often a key stands in a list
abbrev pub times_key : ℕ → List ℕ → ℕ
times_key key keys = count_by (λ other. other == key) keys

abbrev pub keys_at : List (List ℕ) → ℕ → List ℕ
keys_at links first = slice_index_or links first []

-- each channel has a chain of edges, and each edge stands in one chain
pub record AreLinked (slots : Slots) (newest : List (Option ℕ)) (links : List (List ℕ)) : Type 0 where
  pub each : length links ≡ length newest
  pub chains : (first : ℕ) → IsChain slots (slice_index_or newest first None) (keys_at links first)
  pub once : (key : ℕ) → sum_by (times_key key) links ≤ 1
  pub all : count_by is_some slots ≡ sum_by length links

-- what a search for the edge to a channel finds in a chain: the first such key
abbrev pub IsFound : Slots → ℕ → List ℕ → Option ℕ → Type 0
IsFound slots second [] found = found ≡ None
IsFound slots second (key ∷ keys) found = (edge : Edge) × (slot slots key ≡ Some edge) × (((edge.second.0 ≡ second) × (found ≡ Some key)) ⊎ ((edge.second.0 ≢ second) × IsFound slots second keys found))
