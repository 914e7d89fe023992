-- The faults of lanes that a search looks for.
use Rattle.std.specs.Prelude.{ℕ, List}
use Rattle.fab_model.specs.Topology.{Topology}
use Rattle.fab_tables.specs.declared.verdict.Verdict.{Verdict}
use Rattle.fab_tables.specs.declared.lane_faults.LaneFaults.{LaneFaults}
use Rattle.fab_tables.specs.declared.lane_faults.LaneFaults.TheVariants.{Every, Structural}
use Rattle.fab_tables.specs.Entries.{Entries}
use Rattle.fab_tables.specs.LaneTables.{LaneTables}
use Rattle.fab_tables.specs.Verdicts.{IsLaneFaultAt, IsStructural}

-- no numbers can mend it: a source has no level, or a lane is not below the lane count
abbrev pub IsStructuralAt : Topology → Entries → LaneTables → List ℕ → Verdict → Type 0
IsStructuralAt t e l place fault = IsStructural fault × IsLaneFaultAt t e l place fault

-- it is one of those that are looked for
abbrev pub IsSoughtAt : LaneFaults → Topology → Entries → LaneTables → List ℕ → Verdict → Type 0
IsSoughtAt Every t e l = IsLaneFaultAt t e l
IsSoughtAt Structural t e l = IsStructuralAt t e l

-- numbers are looked at
abbrev pub SeeksNumbers : LaneFaults → Type 0
SeeksNumbers Every = Unit {0}
SeeksNumbers Structural = ⊥
