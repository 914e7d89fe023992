-- Laws of sweeps.
use Rattle.std.specs.Prelude.{◌≡◌, ℕ, ◌<◌, ◌≤◌, List, Contains, IsFalse}
use Rattle.fab_model.specs.declared.rows.Cable.{Cable}
use Rattle.fab_model.specs.Topology.{Topology}
use Rattle.fab_model.specs.WellFormed.{IsFabric}
use Rattle.fab_model.specs.Without.{is_unknown}
use Rattle.fab_tables.specs.declared.plan.Plan.{Plan}
use Rattle.fab_tables.specs.Fit.{PlanFits}
use Rattle.fab_sweep.specs.declared.rows.SweepRow.{SweepRow}
use Rattle.fab_sweep.specs.declared.Failing.{Failing}
use Rattle.fab_sweep.specs.Failures.{Failure, failures}
use Rattle.fab_sweep.specs.Sweeps.{AreSweepRows}

-- each cable that fails is in the fabric, so a repair of it isn't refused
abbrev pub FailuresAreKnown : Type 0
FailuresAreKnown = (t : Topology) (what : Failing) (failure : Failure) (cable : Cable) → Contains (failures t what) failure → Contains failure.cables cable → IsFalse (is_unknown t cable)

-- a sweep has one answer
abbrev pub OneSweep : Type 0
OneSweep = (t : Topology) (plan : Plan) (lanes : ℕ) (what : Failing) (x y : List SweepRow) → IsFabric t → 0 < lanes →
    AreSweepRows t plan lanes what x → AreSweepRows t plan lanes what y → x ≡ y

-- and it has one
abbrev pub SweepExists : Type 0
SweepExists = (t : Topology) (plan : Plan) (lanes : ℕ) (what : Failing) → IsFabric t → PlanFits t plan → 0 < lanes → lanes ≤ 15 →
    (rows : List SweepRow) × AreSweepRows t plan lanes what rows
