-- What the rows of a block tell of each LID.
use Rattle.std.specs.Prelude.{ℕ, ◌+◌, ◌<◌, ◌≤◌, ◌==◌, List, All, map, take, drop, length, Option, Some, None, if◌then◌else◌}
use Rattle.fab_model.specs.declared.rows.Lid.{Lid}
use Rattle.fab_tables.specs.declared.lanes.PairRow.{PairRow}
use Rattle.fab_tables.specs.Entries.{entry}
use Rattle.fab_tables.specs.LaneTables.{AreLaneTables, level}
use Rattle.fab_dump.specs.declared.write_blocks.BlockValues.{BlockValues}
use Rattle.fab_dump.specs.declared.write_blocks.BlockValues.TheVariants.{Ports, Levels}
use Rattle.fab_dump.specs.Writing.{port3, level2}

abbrev pub value_text : BlockValues → ℕ → ℕ → List ℕ
value_text (Ports tables) s lid = port3 (entry tables.now s lid)
value_text (Levels lanes) s lid = level2 (level lanes.now s lid)

-- the tables or the lanes have such a switch
abbrev pub AreOfSwitch : BlockValues → ℕ → Type 0
AreOfSwitch (Ports tables) s = s < tables.now.switches
AreOfSwitch (Levels lanes) s = AreLaneTables lanes.now × (s < lanes.now.switches)

-- a pair of ports, if it is one of this switch
abbrev pub of_switch : ℕ → Option PairRow → Option PairRow
of_switch s None = None
of_switch s (Some p) = if p.switch.0 == s then Some p else None

-- the pairs of a switch and of those after it begin at a place
pub record BeginAt (pairs : List PairRow) (s place : ℕ) : Type 0 where
  pub within : place ≤ length pairs
  pub before : All (λ (p : PairRow). p.switch.0 < s) (take place pairs)
  pub from : All (λ (p : PairRow). s ≤ p.switch.0) (drop place pairs)

-- before a place no pair is of a later switch than this, and from it on none of an earlier one
pub record AreUpTo (pairs : List PairRow) (s place : ℕ) : Type 0 where
  pub until : All (λ (p : PairRow). p.switch.0 < s + 1) (take place pairs)
  pub since : All (λ (p : PairRow). s ≤ p.switch.0) (drop place pairs)

-- the numbers of LIDs
abbrev pub numbers_of : List Lid → List ℕ
numbers_of lids = map (λ (lid : Lid). lid.0) lids
