use Rattle.std.proofs.Common.{arith}
use Rattle.fab_netdiscover.specs.Writing.{switch_text}
use Rattle.fab_netdiscover.proofs.NumberedRows.{row_added, all_rows}
use Rattle.fab_netdiscover.proofs.writing.push_switches.Goals as goal

pub loop-switch-preserved : goal.loop-switch-preserved
loop-switch-preserved c =
    row_added (switch_text c.args.fabric.now) c.args.fabric.now.switches c.args.text.now.items c.loop-switch.text.items c.push_switch.new.text.items c.loop-switch.switch (omega arith) c.loop-switch.invariant c.in_ok-push_switch.ensures

pub returns-clause-ok : goal.returns-clause-ok
returns-clause-ok c = all_rows (switch_text c.args.fabric.now) c.args.fabric.now.switches c.args.text.now.items c.loop-switch.text.items c.loop-switch.switch (omega arith) c.loop-switch.invariant
