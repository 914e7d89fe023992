use Rattle.std.proofs.Common.{arith}
use Rattle.fab_netdiscover.proofs.NumberedRows.{row_added, all_rows}
use Rattle.fab_mcast.specs.GroupTrees.{entries_at}
use Rattle.fab_top.specs.GroupTexts.{entry_row}
use Rattle.fab_top.proofs.NamedGroups.{if_there}
use Rattle.fab_top.proofs.group_texts.push_entries.Goals as goal

pub loop-s-preserved : goal.loop-s-preserved
loop-s-preserved c =
    row_added (entry_row c.args.fabric.now) (entries_at c.args.tables.now c.args.index) c.args.to.now.items c.loop-s.to.items c.push_entry.new.to.items c.loop-s.s (omega arith) c.loop-s.invariant
    (if_there _ _ _ c.ports-ports.ensures c.in_ok-push_entry.ensures)

pub returns : goal.returns
returns c = all_rows (entry_row c.args.fabric.now) (entries_at c.args.tables.now c.args.index) c.args.to.now.items c.loop-s.to.items c.loop-s.s (omega arith) c.loop-s.invariant
