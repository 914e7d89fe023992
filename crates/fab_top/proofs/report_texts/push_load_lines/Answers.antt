use Rattle.std.proofs.Common.{arith}
use Rattle.fab_netdiscover.proofs.NumberedRows.{row_added, all_rows}
use Rattle.fab_top.specs.ReportTexts.{load_line}
use Rattle.fab_top.proofs.report_texts.push_load_lines.Goals as goal

pub loop-c-preserved : goal.loop-c-preserved
loop-c-preserved c =
    row_added (load_line c.args.fabric.now c.args.loads.now) c.args.fabric.now.channels c.args.to.now.items c.loop-c.to.items c.push_load_line.new.to.items c.loop-c.c (omega arith) c.loop-c.invariant c.in_ok-push_load_line.ensures

pub returns : goal.returns
returns c = all_rows (load_line c.args.fabric.now c.args.loads.now) c.args.fabric.now.channels c.args.to.now.items c.loop-c.to.items c.loop-c.c (omega arith) c.loop-c.invariant
