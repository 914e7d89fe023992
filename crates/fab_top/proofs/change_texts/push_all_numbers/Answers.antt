use Rattle.std.proofs.Common.{arith}
use Rattle.fab_netdiscover.proofs.NumberedRows.{row_added, all_rows}
use Rattle.fab_top.specs.ChangeTexts.{numbers_text}
use Rattle.fab_top.proofs.change_texts.push_all_numbers.Goals as goal

pub loop-c-preserved : goal.loop-c-preserved
loop-c-preserved c =
    row_added (numbers_text c.args.fabric.now c.args.lanes.now) c.args.fabric.now.channels c.args.to.now.items c.loop-c.to.items c.push_numbers.new.text.items c.loop-c.c (omega arith) c.loop-c.invariant c.in_ok-push_numbers.ensures

pub returns : goal.returns
returns c = all_rows (numbers_text c.args.fabric.now c.args.lanes.now) c.args.fabric.now.channels c.args.to.now.items c.loop-c.to.items c.loop-c.c (omega arith) c.loop-c.invariant
