use Rattle.std.proofs.Common.{◌≡◌, ◌+◌, ◌*◌, ◌-◌, ◌∙◌, sym, ap, subst, length, arith}
use Rattle.std.proofs.lemmas.List.{with_items_is}
use borrow.Rule.Slice.PartMut.{put_mid}
use Rattle.fab_hops.proofs.Rows.{AreRows, row_written, is_table, are_hops}
use Rattle.fab_hops.proofs.hops.Hops.of.Goals as goal

pub loop-start-preserved : goal.loop-start-preserved
loop-start-preserved c =
    let start = c.loop-start.start in
    let width = c.switches-switch_count.result in
    let codes = c.loop-start.codes in
    let old = c.deref_mut.result.now in
    let row = c.count_hops.new.row in
    let written = row_written c.args.fabric.now start width codes.items old row c.switches-switch_count.ensures.count c.deref_mut.ensures.value (omega arith) c.loop-start.invariant.rows c.count_hops.auto.row c.in_ok-count_hops.ensures.row in
    rw (with_items_is codes (put_mid (start * width) (start * width + width - start * width) old row) (written.1 ∙ sym codes.ok.0)) (record { rows = written.0; empty = c.in_ok-count_hops.ensures.empty })

pub invariant_of-result : goal.invariant_of-result
invariant_of-result c =
    is_table c.switches-switch_count.result c.loop-start.codes.items (omega (arith, c.switches-switch_count.ensures.count, c.switches-switch_count.ensures.kept.rows.switch_count))
    (c.loop-start.invariant.rows.whole ∙ ap (λ n. n * n) (sym c.switches-switch_count.ensures.count))

pub returns : goal.returns
returns c =
    let whole : c.loop-start.start ≡ length c.args.fabric.now.switches = omega (arith, c.switches-switch_count.ensures.count) in
    are_hops c.args.fabric.now c.switches-switch_count.result c.loop-start.codes.items c.switches-switch_count.ensures.count
    (subst (λ n. AreRows c.args.fabric.now n c.loop-start.codes.items) whole c.loop-start.invariant.rows)
