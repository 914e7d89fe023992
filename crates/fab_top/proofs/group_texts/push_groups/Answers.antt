use Rattle.std.proofs.Common.{length, arith}
use Rattle.std.specs.Prelude.{slice_get}
use Rattle.fab_netdiscover.proofs.NumberedRows.{row_added, all_rows}
use Rattle.fab_top.specs.GroupTexts.{group_row}
use Rattle.fab_top.proofs.NamedGroups.{entries_each, group_added}
use Rattle.fab_top.proofs.group_texts.push_groups.Goals as goal

pub push_group-requires-clause-each : goal.push_group-requires-clause-each
push_group-requires-clause-each c = entries_each (length c.args.fabric.now.switches) c.args.tables.now c.loop-index.index c.requires.each (omega arith)

pub loop-index-preserved : goal.loop-index-preserved
loop-index-preserved c =
    row_added (group_row c.args.fabric.now c.args.tables.now) c.args.groups.now c.args.to.now.items c.loop-index.to.items c.push_group.new.to.items c.loop-index.index (omega arith) c.loop-index.invariant
    (group_added c.args.fabric.now c.args.tables.now (slice_get c.args.groups.now c.loop-index.index) c.loop-index.index c.number.result _ _ c.number.ensures c.in_ok-push_group.ensures)

pub returns : goal.returns
returns c = all_rows (group_row c.args.fabric.now c.args.tables.now) c.args.groups.now c.args.to.now.items c.loop-index.to.items c.loop-index.index (omega arith) c.loop-index.invariant
