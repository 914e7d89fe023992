use Rattle.std.proofs.Common.{◌≡◌, ◌∙◌, arith, rules}
use Rattle.fab_export.proofs.GreatestLanes.{used_raises, other_stays, count_is}
use Rattle.fab_export.proofs.config.lane_count.Goals as goal
use Rattle.fab_export.proofs.config.lane_count.Goals.{then-used-level, else-used-level}

pub loop-level-preserved : goal.loop-level-preserved
loop-level-preserved c = elim c.if-used-level.branch [
  | then-used-level w ↦ w.count-is ∙ used_raises c.args.written.now c.args.used.now c.loop-level.level c.loop-level.count w.max-count.result (search rules) c.loop-level.invariant (search rules)
  | else-used-level w ↦ w.count-is ∙ other_stays c.args.written.now c.args.used.now c.loop-level.level c.loop-level.count (search rules) c.loop-level.invariant
]

pub returns : goal.returns
returns c t e l are is = c.loop-level.invariant ∙ count_is t e l c.args.written.now c.args.used.now c.loop-level.level are is (let last : c.loop-level.level ≡ 16 = omega arith in last)
