use Rattle.std.proofs.Common.{◌≡◌, ◌+◌, ◌<◌, ◌^◌, List, length, map, sym, ◌∙◌, subst}
use Rattle.std.specs.Prelude.{Contains, filter, ◌==◌}
use Rattle.std.specs.List.{range_with_len}
use Rattle.fab_model.specs.declared.rows.Cable.{Cable}
use Rattle.fab_model.specs.declared.rows.ChannelRow.{ChannelRow}
use Rattle.fab_sweep.specs.declared.rows.SweepRow.{SweepRow}
use Rattle.fab_sweep.specs.Failures.{cable_of, switch_failure}
use Rattle.fab_sweep.specs.Sweeps.{IsSweepRow, AreRowsOf}
use Rattle.fab_sweep.proofs.FailureRows.{few_cables, none_unknown, switch_cables_known}
use Rattle.fab_sweep.proofs.CableFailures.{switch_row_more}
use Rattle.fab_sweep.proofs.rows.switch_rows.Goals as goal

pub failure_row-requires-clause-few : goal.failure_row-requires-clause-few
failure_row-requires-clause-few c =
    let t = c.args.fabric.now in
    let n = c.loop-number.number in
    let are : c.deref.result.now ≡ map (cable_of t) (filter (λ (row : ChannelRow). row.tail.0 == n) t.channels) = c.deref.ensures.value ∙ c.in_ok-cables.ensures in
    subst (λ (xs : List Cable). length xs < 2 ^ 32) (sym are) (few_cables t n c.switches-number-end.ensures.kept.rows)

pub failure_row-requires-clause-known : goal.failure_row-requires-clause-known
failure_row-requires-clause-known c =
    let t = c.args.fabric.now in
    let n = c.loop-number.number in
    let are : c.deref.result.now ≡ map (cable_of t) (filter (λ (row : ChannelRow). row.tail.0 == n) t.channels) = c.deref.ensures.value ∙ c.in_ok-cables.ensures in
    none_unknown t c.deref.result.now (λ cable has. switch_cables_known t n cable (subst (λ (xs : List Cable). Contains xs cable) are has))

pub loop-number-preserved : goal.loop-number-preserved
loop-number-preserved c =
    let t = c.args.fabric.now in
    let plan = c.args.plan.now in
    let n = c.loop-number.number in
    let row = c.in_ok-failure_row.field-0 in
    let are : c.deref.result.now ≡ map (cable_of t) (filter (λ (row : ChannelRow). row.tail.0 == n) t.channels) = c.deref.ensures.value ∙ c.in_ok-cables.ensures in
    let made : IsSweepRow t plan c.args.lanes (switch_failure t n) row = subst (λ (xs : List Cable). IsSweepRow t plan c.args.lanes (record { switch = n; port = 0; cables = xs }) row) are c.in_ok-failure_row.ensures in
    subst (λ (xs : List SweepRow). AreRowsOf t plan c.args.lanes (map (switch_failure t) (range_with_len 0 (n + 1))) xs) (sym c.in_ok-push.ensures.items)
    (switch_row_more t n plan c.args.lanes c.loop-number.rows.items row c.loop-number.invariant made)
