use Rattle.fab_report.proofs.Generated.NodeRows.{switch_more}
use Rattle.fab_report.proofs.nodes.switch_rows.Goals as goal

pub loop-s-preserved : goal.loop-s-preserved
loop-s-preserved c =
    switch_more c.args.recipe.now c.loop-s.s c.from.result c.port_count.result c.in_ok-description.field-0 c.loop-s.rows.items c.push.new.self.items c.loop-s.invariant c.from.ensures c.port_count.ensures
    c.in_ok-description.ensures c.in_ok-push.ensures.items
