-- Starts that stand for all terminals of a fabric while its tables change: without maps of pairs of ports all starts of a source are alike.
use Rattle.std.specs.Prelude.{◌≡◌, ◌⊎◌, List, [], All, Contains, Option, Some, None}
use Rattle.fab_model.specs.declared.rows.TerminalRow.{TerminalRow}
use Rattle.fab_model.specs.Topology.{Topology}
use Rattle.fab_tables.specs.declared.lanes.PairRow.{PairRow}
use Rattle.fab_tables.specs.declared.starts.Start.{Start}
use Rattle.fab_tables.specs.LaneTables.{LaneTables}
use Rattle.fab_tables.specs.Starts.{start_of, IsOfTerminal, IsInOrder}
use Rattle.fab_transit.specs.declared.mixed.Side.{Side}
use Rattle.fab_transit.specs.MixedWalks.{Change, plan_of}

-- the pairs of ports that have a map; a plan without lanes has none
abbrev pub pairs_read : Option LaneTables → List PairRow
pairs_read None = []
pairs_read (Some l) = l.pairs

abbrev pub HasNoPairs : Change → Type 0
HasNoPairs m = (side : Side) → pairs_read (plan_of m side).lanes ≡ []

-- a start stands for a terminal: it is the terminal's own, or where no pair of ports has a map, one of its switch
abbrev pub StandsIn : Change → Start → TerminalRow → Type 0
StandsIn m start row = (start ≡ start_of row) ⊎ ((start.switch.0 ≡ row.switch.0) × HasNoPairs m)

-- starts of terminals in order, and one that stands for each
pub record AreStanding (t : Topology) (m : Change) (starts : List Start) : Type 0 where
  pub in_order : IsInOrder starts
  pub terminals : All (IsOfTerminal t) starts
  pub all : All (λ row. (start : Start) × Contains starts start × StandsIn m start row) t.terminals
