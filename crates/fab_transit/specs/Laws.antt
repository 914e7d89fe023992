-- Laws of changes of tables.
use Rattle.std.specs.Prelude.{◌≡◌}
use Rattle.fab_model.specs.Topology.{Topology}
use Rattle.fab_model.specs.WellFormed.{IsFabric}
use Rattle.fab_tables.specs.LaneTables.{LaneTables}
use Rattle.fab_tables.specs.Fit.{PlanFits}
use Rattle.fab_transit.specs.declared.mixed.Mixed.{Mixed}
use Rattle.fab_transit.specs.declared.mixed.Mixed.TheVariants.{Numbers}
use Rattle.fab_transit.specs.MixedWalks.{Change}
use Rattle.fab_transit.specs.Answers.{IsAnswerTo}
use Rattle.fab_transit.specs.Safe.{IsSafe}

-- a change has one answer
abbrev pub OneAnswer : Type 0
OneAnswer = (t : Topology) (m : Change) (x y : Mixed) → PlanFits t m.before → PlanFits t m.after → IsAnswerTo t m x → IsAnswerTo t m y → x ≡ y

-- and it has one
abbrev pub AnswerExists : Type 0
AnswerExists = (t : Topology) (m : Change) → IsFabric t → PlanFits t m.before → PlanFits t m.after → (x : Mixed) × IsAnswerTo t m x

-- where there are numbers, the change is safe
abbrev pub NumbersAreSafe : Type 0
NumbersAreSafe = (t : Topology) (m : Change) (l : LaneTables) → IsAnswerTo t m (Numbers l) → IsSafe t m l
