use Rattle.fab_report.proofs.Generated.NodeRows.{adapter_more}
use Rattle.fab_report.proofs.nodes.adapter_rows.Goals as goal

pub loop-number-preserved : goal.loop-number-preserved
loop-number-preserved c =
    adapter_more c.loop-number.number c.from.result c.in_ok-description.field-0 c.loop-number.rows.items c.push.new.self.items c.loop-number.invariant c.from.ensures c.in_ok-description.ensures c.in_ok-push.ensures.items
