use Rattle.fab_dump.specs.BlockValues.{value_text}
use Rattle.fab_dump.proofs.Writing.Rows.{row_done}
use Rattle.fab_dump.proofs.write_blocks.push_row.Goals as goal

pub returns : goal.returns
returns c =
    row_done (value_text c.args.values.now c.args.switch.0) c.args.lids.now _ c.args.text.now.items c.push_lid.new.text.items c.loop-lid.text.items c.loop-lid.lid-index c.requires.some c.loop-lid-test.false
    c.in_ok-push_lid.ensures c.loop-lid.invariant
