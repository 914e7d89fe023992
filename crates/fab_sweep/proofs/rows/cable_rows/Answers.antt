use Rattle.std.proofs.Common.{◌+◌, List, map, take, sym, subst, arith, Vec, Global}
use Rattle.std.specs.Prelude.{filter}
use Rattle.std.specs.List.{enumerate_from}
use Rattle.fab_model.proofs.Channels.{contains_read}
use Rattle.fab_sweep.specs.declared.rows.SweepRow.{SweepRow}
use Rattle.fab_sweep.specs.Failures.{Failure, is_lower, cable_failure}
use Rattle.fab_sweep.specs.Sweeps.{AreRowsOf}
use Rattle.fab_sweep.proofs.FailureRows.{one_known}
use Rattle.fab_sweep.proofs.CableFailures.{cable_row_added, cable_row_passed, all_cable_rows}
use Rattle.fab_sweep.proofs.rows.cable_rows.Goals.{then-number-reverse+in_ok-failure_row+in_ok-push, else-number-reverse}
use Rattle.fab_sweep.proofs.rows.cable_rows.Goals as goal

pub failure_row-requires-clause-known : goal.failure_row-requires-clause-known
failure_row-requires-clause-known c = one_known c.args.fabric.now c.cable_of-cable.result c.channel-row.result c.cable_of-cable.ensures (contains_read c.args.fabric.now.channels c.loop-number.number c.channel-row.result c.channel-row.ensures)

pub loop-number-preserved : goal.loop-number-preserved
loop-number-preserved c =
    let t = c.args.fabric.now in
    let plan = c.args.plan.now in
    let n = c.loop-number.number in
    let good = c.channels-number-end.ensures.kept.rows in
    let so_far : List Failure = map (cable_failure t) (filter (is_lower t) (take (n + 1) (enumerate_from 0 t.channels))) in
    elim c.if-number-reverse.branch [
      | then-number-reverse+in_ok-failure_row+in_ok-push w ↦
          subst (λ (v : Vec SweepRow Global). AreRowsOf t plan c.args.lanes so_far v.items) (sym w.rows-is)
          (subst (λ (xs : List SweepRow). AreRowsOf t plan c.args.lanes so_far xs) (sym w.in_ok-push.ensures.items)
          (cable_row_added t good n c.reverse.result.0 w.channel-row.result w.cable_of-cable.result plan c.args.lanes c.loop-number.rows.items w.in_ok-failure_row.field-0
          w.channel-row.ensures c.reverse.ensures.reverse w.if-number-reverse.true w.cable_of-cable.ensures c.loop-number.invariant w.in_ok-failure_row.ensures))
      | else-number-reverse w ↦
          subst (λ (v : Vec SweepRow Global). AreRowsOf t plan c.args.lanes so_far v.items) (sym w.rows-is)
          (cable_row_passed t good n c.reverse.result.0 plan c.args.lanes c.loop-number.rows.items (omega (arith, c.loop-number-test.true, c.channels-number-end.ensures.count)) c.reverse.ensures.reverse (omega (arith, w.if-number-reverse.false)) c.loop-number.invariant)
    ]

pub returns-clause-rows : goal.returns-clause-rows
returns-clause-rows c = all_cable_rows c.args.fabric.now c.loop-number.number c.args.plan.now c.args.lanes _ (omega (arith, c.loop-number-test.false, c.channels-number-end.ensures.count)) c.loop-number.invariant
