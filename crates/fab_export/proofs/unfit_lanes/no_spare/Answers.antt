use Rattle.std.proofs.Common.{arith, rules}
use Rattle.fab_export.proofs.HighLanes.{all_used, one_spare}
use Rattle.fab_export.proofs.unfit_lanes.no_spare.Goals as goal

pub returns-then-not-is_used : goal.returns-then-not-is_used
returns-then-not-is_used c t e l are = one_spare t e l c.args.used.now are c.loop-is_used.is_used-index (omega (arith, c.loop-is_used-test.true, c.told-used)) (search rules)

pub returns : goal.returns
returns c t e l are = all_used t e l c.args.used.now are (λ k low. c.loop-is_used.invariant k (omega (arith, low, c.loop-is_used-test.false, c.told-used)))
