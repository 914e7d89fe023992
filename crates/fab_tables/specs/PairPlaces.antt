-- Where a row stands among the rows of pairs, and where one would.
use Rattle.std.specs.Prelude.{◌≡◌, ℕ, ◌<◌, ◌≤◌, List, length}
use Rattle.std.specs.List.{AllWithin, HoldsAt}
use Rattle.fab_tables.specs.declared.lanes.PairRow.{PairRow}
use Rattle.fab_tables.specs.LaneTables.{pair_key}

-- the row of this key stands at this place
pub record StandsAt (rows : List PairRow) (key place : ℕ) : Type 0 where
  pub within : place < length rows
  pub below : AllWithin (λ row. pair_key row < key) rows 0 place
  pub same : HoldsAt (λ row. pair_key row ≡ key) rows place

-- no row has this key, and one that had it would stand at this place
pub record GoesTo (rows : List PairRow) (key place : ℕ) : Type 0 where
  pub within : place ≤ length rows
  pub below : AllWithin (λ row. pair_key row < key) rows 0 place
  pub above : AllWithin (λ row. key < pair_key row) rows place (length rows)
