-- The numbering of sources, as the code keeps it.
use Rattle.std.specs.Prelude.{ℕ, List, map, Option}
use Rattle.fab_model.specs.declared.rows.SwitchId.{SwitchId}
use Rattle.fab_model.specs.Topology.{Topology}
use Rattle.fab_tables.specs.Entries.{Entries}
use Rattle.fab_tables.specs.LaneTables.{LaneTables}
use Rattle.fab_export.specs.declared.classes.Numbering.{Numbering}
use Rattle.fab_export.specs.ClassNumbers.{number_by, IsNumbering, IsNumberOf}

-- the least sources by their numbers
abbrev pub least_of : Numbering → List ℕ
least_of numbering = map (λ (s : SwitchId). s.0) numbering.least.items

-- the first sources are numbered
abbrev pub IsNumberingOf : Topology → Entries → LaneTables → ℕ → Numbering → Type 0
IsNumberingOf t e l n numbering = IsNumbering t e l n (least_of numbering) (λ row. row.items) (number_by numbering.by_levels)

-- the number of a switch's class stays
abbrev pub KeepNumbers : Topology → Entries → LaneTables → Numbering → Numbering → Type 0
KeepNumbers t e l before now = (s : ℕ) (number : Option ℕ) → IsNumberOf t e l (least_of before) s number → IsNumberOf t e l (least_of now) s number
