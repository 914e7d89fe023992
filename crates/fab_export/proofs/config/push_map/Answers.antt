use Rattle.fab_export.proofs.WithCommas.{lane_pushed}
use Rattle.fab_export.proofs.config.push_map.Goals as goal

pub loop-place-preserved : goal.loop-place-preserved
loop-place-preserved c =
    lane_pushed c.args.lanes.now c.loop-place.place 0 c.from.result c.args.text.now.items c.loop-place.text.items _ _ c.loop-place-test.true c.from.ensures c.loop-place.invariant c.in_ok-push_comma.ensures
    c.in_ok-push_dec.ensures.ok
