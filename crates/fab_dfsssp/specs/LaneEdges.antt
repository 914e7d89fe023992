-- The edges of a lane, where the levels of the paths say on which lane they are.
use Rattle.std.specs.Prelude.{◌≡◌, ℕ, ◌<◌, Some}
use Rattle.fab_graph.specs.Walks.{IsOnClosedWalk}
use Rattle.fab_model.specs.Topology.{Topology}
use Rattle.fab_tables.specs.Entries.{Entries}
use Rattle.fab_tables.specs.LaneTables.{LaneTables, level}
use Rattle.fab_tables.specs.Route.{route}
use Rattle.fab_tables.specs.VirtualChannels.{Follow}

-- channels that follow each other on a path with this level
abbrev pub IsEdgeAtLevel : Topology → Entries → LaneTables → ℕ → ℕ → ℕ → Type 0
IsEdgeAtLevel t e l lane c d = (lid s : ℕ) × (level l s lid ≡ Some lane) × Follow (route t e s lid).channels c d

-- no channel below a number is on a closed walk of these edges
abbrev pub HasNoRingBelow : Topology → Entries → LaneTables → ℕ → ℕ → Type 0
HasNoRingBelow t e l lane channel = (a : ℕ) → a < channel → ¬ IsOnClosedWalk (λ (c d : ℕ). IsEdgeAtLevel t e l lane c d) a
