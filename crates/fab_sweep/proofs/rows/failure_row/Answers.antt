use Rattle.std.proofs.Common.{sym, subst, arith}
use Rattle.fab_model.proofs.LidsInUse.{as_many}
use Rattle.fab_repair.proofs.Repairing.{left_fabric}
use Rattle.fab_sweep.specs.Sweeps.{TellsConnected}
use Rattle.fab_sweep.proofs.KeptCount.{few_kept}
use Rattle.fab_sweep.proofs.SweepRows.{row_counted}
use Rattle.fab_sweep.proofs.rows.failure_row.Goals as goal

pub overflow_cast-result : goal.overflow_cast-result
overflow_cast-result c =
    let left = c.in-Ok.repaired.fabric in
    let kept = c.in-Ok.repaired.kept in
    omega (
      arith,
      as_many c.lids.result.now kept c.lids.ensures,
      few_kept left c.args.lanes c.args.plan.now kept c.in-Ok.repaired.plan (left_fabric c.args.fabric.now left c.args.cables.now c.requires.fabric c.in-Ok.ensures.fabric) c.in-Ok.ensures.plan,
    )

pub returns : goal.returns
returns c =
    let left = c.in-Ok.repaired.fabric in
    let kept = c.in-Ok.repaired.kept in
    let told = c.costs_of-cost.ensures in
    row_counted c.args.fabric.now left c.args.plan.now c.args.lanes (record { switch = c.args.switch.0; port = c.args.port; cables = c.args.cables.now }) c.in-Ok.ensures.fabric kept c.in-Ok.repaired.plan _ _ _ _ c.requires.fabric c.in-Ok.ensures.plan
    (λ was is a b. told.lost was is (subst (λ u. TellsConnected u was) (sym c.requires.before) a) (subst (λ u. TellsConnected u is) (sym c.in_ok-after.ensures) b))
    (as_many c.lids.result.now kept c.lids.ensures) told.changed
    (λ is b. told.moved is (subst (λ u. TellsConnected u is) (sym c.in_ok-after.ensures) b))
