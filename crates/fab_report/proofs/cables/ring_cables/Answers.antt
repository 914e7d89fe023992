use Rattle.fab_report.proofs.Generated.RegularRows.{ring_cable_more}
use Rattle.fab_report.proofs.cables.ring_cables.Goals as goal

pub loop-s-preserved : goal.loop-s-preserved
loop-s-preserved c = ring_cable_more c.args.switches c.loop-s.s c.loop-s.rows.items c.push.new.self.items c.cable.result c.loop-s.invariant c.in_ok-push.ensures.items c.cable.ensures
