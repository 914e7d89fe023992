-- The virtual channels that routes use, and their dependencies, by number, as they are collected route by route.
use Rattle.std.specs.Prelude.{◌≡◌, ℕ, suc, ◌*◌, ◌<◌, ◌⊎◌, List, [], length, Bool, true, false, Contains, Option, Some, IfSome, slice_get, slice_index_or}
use Rattle.fab_model.specs.Topology.{Topology}
use Rattle.fab_model.specs.declared.rows.TerminalRow.{TerminalRow}
use Rattle.fab_tables.specs.declared.verdict.VirtualChannel.{VirtualChannel}
use Rattle.fab_tables.specs.Entries.{Entries, cell}
use Rattle.fab_tables.specs.LaneTables.{LaneTables}
use Rattle.fab_tables.specs.VirtualChannels.{virtual_channels}
use Rattle.fab_tables.specs.Judged.{hops_behind}
use Rattle.fab_tables.specs.Dependencies.{IsPath, IsUsed, DependsByNode, node_of}
use Rattle.fab_tables.specs.declared.starts.Start.{Start}
use Rattle.fab_tables.specs.Starts.{start_of}
use Rattle.fab_rings.specs.EdgeList.{EdgeList}
use Rattle.fab_graph.specs.Walks.{IsEdge}

pub record Collected : Type 0 where
  pub used : List Bool  -- for each number whether its virtual channel is used
  pub pairs : List (ℕ × ℕ)  -- the dependencies, each once

abbrev pub IsMarked : Collected → ℕ → Type 0
IsMarked c n = slice_index_or c.used n false ≡ true

-- a follower that stands in the list of its number is an edge
pub record AreFollowers (used : List Bool) (g : EdgeList) (followers : List (List ℕ)) : Type 0 where
  pub nodes : g.nodes ≡ length used
  pub lists : length followers ≡ length used
  pub edges : (a b : ℕ) → Contains (slice_index_or followers a []) b → IsEdge g.edges a b

-- nothing is taken back
pub record Grows (old new : Collected) : Type 0 where
  pub each : length new.used ≡ length old.used
  pub used : (n : ℕ) → IsMarked old n → IsMarked new n
  pub pairs : (x : ℕ × ℕ) → Contains old.pairs x → Contains new.pairs x

-- the hop of this number is collected, and that it depends on the one before
pub record AddsHop (before : Option ℕ) (node : ℕ) (old new : Collected) : Type 0 where
  pub grows : Grows old new
  pub marked : IsMarked new node
  pub marked_only : (n : ℕ) → IsMarked new n → IsMarked old n ⊎ (n ≡ node)
  pub paired : IfSome before (λ first. Contains new.pairs (first, node))
  pub paired_only : (x : ℕ × ℕ) → Contains new.pairs x → Contains old.pairs x ⊎ ((before ≡ Some x.0) × (x.1 ≡ node))

-- what is collected comes from the routes of the plan
pub record IsFromRoutes (t : Topology) (e : Entries) (l : LaneTables) (c : Collected) : Type 0 where
  pub each : length c.used ≡ length t.channels * l.count
  pub used : (n : ℕ) → IsMarked c n → (v : VirtualChannel) × IsUsed t e l v × (node_of l.count v ≡ n)
  pub pairs : (m n : ℕ) → Contains c.pairs (m, n) → DependsByNode t e l m n

-- these hops are collected, and that each depends on the one before
pub record HasHops (count : ℕ) (hops : List VirtualChannel) (c : Collected) : Type 0 where
  pub used : (k : ℕ) (v : VirtualChannel) → slice_get hops k ≡ Some v → IsMarked c (node_of count v)
  pub pairs : (k : ℕ) (v w : VirtualChannel) → slice_get hops k ≡ Some v → slice_get hops (suc k) ≡ Some w → Contains c.pairs (node_of count v, node_of count w)

-- the first so many of them are
pub record HasFirstHops (count : ℕ) (hops : List VirtualChannel) (passed : ℕ) (c : Collected) : Type 0 where
  pub used : (k : ℕ) (v : VirtualChannel) → k < passed → slice_get hops k ≡ Some v → IsMarked c (node_of count v)
  pub pairs : (k : ℕ) (v w : VirtualChannel) → suc k < passed → slice_get hops k ≡ Some v → slice_get hops (suc k) ≡ Some w → Contains c.pairs (node_of count v, node_of count w)

-- the routes from a start to a LID are collected
abbrev pub HasRoutes : Topology → Entries → LaneTables → ℕ → Start → Collected → Type 0
HasRoutes t e l lid start c = (p : TerminalRow) → IsPath t p lid → start_of p ≡ start → HasHops l.count (virtual_channels t e l p lid) c

-- and those from all terminals
abbrev pub HasRoutesFor : Topology → Entries → LaneTables → ℕ → Collected → Type 0
HasRoutesFor t e l lid c = (p : TerminalRow) → IsPath t p lid → HasHops l.count (virtual_channels t e l p lid) c

-- a switch is marked for a level
abbrev pub IsMarkedAt : List Bool → ℕ → ℕ → Type 0
IsMarkedAt marks s of_level = slice_index_or marks (cell 16 s of_level) false ≡ true

-- behind the first hop of the route from a switch to a LID all is collected, for packets of this level
abbrev pub HasBehind : Topology → Entries → LaneTables → ℕ → Collected → ℕ → ℕ → Type 0
HasBehind t e l lid c s of_level = HasHops l.count (hops_behind t e l lid s of_level) c

-- so it is from each switch and at each level that are marked
abbrev pub AreBehind : Topology → Entries → LaneTables → ℕ → List Bool → Collected → Type 0
AreBehind t e l lid marks c = (s of_level : ℕ) → of_level < 16 → IsMarkedAt marks s of_level → HasBehind t e l lid c s of_level

-- what is collected is what the routes use, and their dependencies
pub record AreDependencies (t : Topology) (e : Entries) (l : LaneTables) (c : Collected) : Type 0 where
  pub from_routes : IsFromRoutes t e l c
  pub used : (v : VirtualChannel) → IsUsed t e l v → IsMarked c (node_of l.count v)
  pub pairs : (m n : ℕ) → DependsByNode t e l m n → Contains c.pairs (m, n)
