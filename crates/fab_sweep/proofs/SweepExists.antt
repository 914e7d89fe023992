-- A sweep has an answer, as each fabric has a plan of Nue.
use Rattle.std.proofs.Common.{ℕ, List, Some, Contains}
use Rattle.fab_tables.specs.declared.plan.Plan.{Plan}
use Rattle.fab_nue.specs.NuePlan.{IsNuePlan}
use Rattle.fab_nue.proofs.Exists.Plans.{nue_plan_exists}
use Rattle.fab_repair.proofs.Repairing.{still_has}
use Rattle.fab_sweep.specs.declared.rows.SweepRow.{SweepRow}
use Rattle.fab_sweep.specs.Failures.{Failure, failures}
use Rattle.fab_sweep.specs.Sweeps.{after_failure, IsSweepRow}
use Rattle.fab_sweep.specs.Laws.{SweepExists}
use Rattle.fab_sweep.proofs.SweepRows.{left_fabric, row_made, rows_there}

pub sweep_exists : SweepExists
sweep_exists t plan lanes what fabric fits some few = rows_there t plan lanes (failures t what) each
  where
    each : (failure : Failure) → Contains (failures t what) failure → (row : SweepRow) × IsSweepRow t plan lanes failure row
    each failure has = go (nue_plan_exists (after_failure t failure) lanes (Some plan) (left_fabric t fabric plan lanes failure) some few (still_has t failure.cables plan fits))
      where
        go : (kept : List ℕ) × (p : Plan) × IsNuePlan (after_failure t failure) lanes (Some plan) kept p → (row : SweepRow) × IsSweepRow t plan lanes failure row
        go x = (_, row_made t fabric plan lanes failure x.0 x.1 x.2)
