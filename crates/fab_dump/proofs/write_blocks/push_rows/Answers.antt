use Rattle.std.proofs.Common.{◌++◌, ◌*◌, ◌<◌, ℕ, List, length, refl, ap, ◌∙◌, arith}
use Rattle.fab_model.specs.Topology.{lids_of}
use Rattle.fab_dump.specs.BlockValues.{value_text}
use Rattle.fab_dump.specs.Writing.{numbered_row, row_text}
use Rattle.fab_dump.proofs.Writing.Rows.{line_added, row_lids_are}
use Rattle.fab_dump.proofs.write_blocks.push_rows.Goals as goal

pub loop-number-preserved : goal.loop-number-preserved
loop-number-preserved c =
    let number = c.loop-number.number in
    let value = value_text c.args.values.now c.args.switch.0 in
    let lids = c.lids_in_use-lids.result.now in
    let low : number * 64 < length lids = omega (arith, c.loop-number-test.true, c.loop-number.auto.number-end, c.div_ceil-number-end.ensures) in
    let row = row_lids_are lids (lids_of c.args.fabric.now) (number * 64) c.min-past.result number c.lids_in_use-lids.ensures.lids refl c.min-past.ensures low in
    line_added (numbered_row c.args.fabric.now value) number c.args.text.now.items c.loop-number.text.items c.push_row.new.text.items c.push.new.to.items
    c.loop-number.invariant (c.in_ok-push_row.ensures ∙ ap (λ (some : List ℕ). c.loop-number.text.items ++ row_text value some) row) c.in_ok-push.ensures
