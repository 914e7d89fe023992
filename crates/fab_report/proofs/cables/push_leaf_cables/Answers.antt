use Rattle.fab_report.proofs.Generated.RegularRows.{leaf_cable_more}
use Rattle.fab_report.proofs.cables.push_leaf_cables.Goals as goal

pub loop-top-preserved : goal.loop-top-preserved
loop-top-preserved c =
    leaf_cable_more c.args.leaf c.args.leaves c.loop-top.top c.args.rows.now.items c.loop-top.rows.items c.push.new.self.items c.cable.result c.loop-top.invariant c.in_ok-push.ensures.items c.cable.ensures
