-- What holds of all that can be read so far.
use Rattle.std.specs.Prelude.{◌≡◌, ℕ, ◌<◌, true, false, not, List, length, Option, Some, None, IfSome, is_some, count_by, ◌==◌}
use Rattle.std.specs.List.{list_any}
use Rattle.fab_model.specs.Topology.{Topology, is_source}
use Rattle.fab_tables.specs.declared.lanes.PairRow.{PairRow}
use Rattle.fab_tables.specs.LaneTables.{LaneTables, number, pair_key}
use Rattle.fab_tables.specs.Fit.{PlanFits, IsTidy}
use Rattle.fab_dump.specs.declared.form.Block.{Block}
use Rattle.fab_dump.specs.declared.form.Block.TheVariants.{Table, Levels, MapRow, Pairs, Numbers}
use Rattle.fab_dump.specs.Given.{Given, was_given, plan_given}
use Rattle.fab_dump.specs.Given.Given.{TableBlock, Port, LevelBlock, Level, PairMap, Number}
use Rattle.fab_dump.specs.Lines.{Form, State, is_pair_map}

-- The block may be open: lanes are spoken of only where the plan has them, and levels only of sources.
abbrev pub MayBeOpen : Topology → Option ℕ → Block → Type 0
MayBeOpen t count (Levels s) = (is_some count ≡ true) × (s.0 < length t.switches) × (is_source t s.0 ≡ true)
MayBeOpen t count (MapRow s) = (is_some count ≡ true) × (s.0 < length t.switches)
MayBeOpen t count (Pairs s) = (is_some count ≡ true) × (s.0 < length t.switches)
MayBeOpen t count Numbers = is_some count ≡ true
MayBeOpen t count _ = Unit {0}

-- a block that is open was opened by its head
abbrev pub IsOpened : List Given → Block → Type 0
IsOpened given (Table (Some s)) = was_given given (TableBlock s.0) ≡ true
IsOpened given (Levels s) = was_given given (LevelBlock s.0) ≡ true
IsOpened given _ = Unit {0}

-- before its head nothing is said of a block's rows
abbrev pub HeadsComeFirst : (ℕ → Given) → (ℕ → ℕ → Given) → List Given → Type 0
HeadsComeFirst head row given = (s lid : ℕ) → was_given given (head s) ≡ false → was_given given (row s lid) ≡ false

-- the lanes tell of which channels and pairs of ports was spoken
pub record LanesTell (given : List Given) (l : LaneTables) : Type 0 where
  pub numbers : (channel lane : ℕ) → channel < l.channels → lane < 15 → (number l channel lane == 0) ≡ not (was_given given (Number channel lane 0))
  pub pairs : (row : PairRow) → list_any (λ p. pair_key p == pair_key row) l.pairs ≡ was_given given (PairMap row)
  pub pair_count : count_by is_pair_map given ≡ length l.pairs

pub record IsOrderly (t : Topology) (f : Form) (s : State) : Type 0 where
  pub plan : PlanFits t (plan_given t f.count s.given)
  pub tidy : IsTidy t (plan_given t f.count s.given)
  pub block : MayBeOpen t f.count s.open_block
  pub opened : IsOpened s.given s.open_block
  pub tables : HeadsComeFirst TableBlock (λ s lid. Port s lid 0) s.given
  pub levels : HeadsComeFirst LevelBlock (λ s lid. Level s lid None) s.given
  pub told : IfSome ((plan_given t f.count s.given).lanes) (LanesTell s.given)
