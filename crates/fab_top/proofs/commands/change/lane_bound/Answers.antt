use Rattle.fab_top.proofs.Transiting.{bound_is}
use Rattle.fab_top.proofs.commands.change.lane_bound.Goals as goal

pub returns : goal.returns
returns c = bound_is c.args.old.now c.args.new.now _ _ _ c.lane_count.ensures c.lane_count-2.ensures c.max.ensures
