use Rattle.std.proofs.Common.{arith}
use Rattle.fab_export.proofs.MarkedLevels.{map_is}
use Rattle.fab_export.proofs.used_levels.written_map_of.Goals as goal

pub returns : goal.returns
returns c = λ t e are.
    map_is t e c.args.lanes.now c.args.used.now are c.loop-level.written c.loop-level.invariant.whole (λ n low. c.loop-level.invariant.below n (omega arith))
