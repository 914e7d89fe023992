use Rattle.fab_export.proofs.WithCommas.{weight_pushed}
use Rattle.fab_export.proofs.config.push_weights.Goals as goal

pub loop-lane-preserved : goal.loop-lane-preserved
loop-lane-preserved c =
    weight_pushed c.loop-lane.lane c.from.result c.from-in-loop-lane.result c.args.text.now.items c.loop-lane.text.items _ _ _ c.from.ensures c.from-in-loop-lane.ensures c.loop-lane.invariant c.in_ok-push_comma.ensures
    c.in_ok-push_dec.ensures.ok c.in_ok-push.ensures
