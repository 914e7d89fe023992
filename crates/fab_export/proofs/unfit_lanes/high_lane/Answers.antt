use Rattle.std.proofs.Common.{arith, ◌∙◌, ap, sym, false, slice_index_or}
use Rattle.std.specs.Prelude.{min}
use Rattle.fab_export.proofs.HighLanes.{high_found, no_high}
use Rattle.fab_export.proofs.unfit_lanes.high_lane.Goals as goal

pub returns-then-lane-bound : goal.returns-then-lane-bound
returns-then-lane-bound c t e are =
    high_found t e c.args.lanes.now c.args.used.now are c.min-bound.result c.loop-level.level c.lane-lane.result (c.min-bound.ensures ∙ ap (λ n. min n 8) c.count.ensures) c.lane-lane.ensures (omega (arith, c.loop-level-test.true)) c.loop-level.invariant
    (ap (λ k. slice_index_or c.args.used.now k false) (sym c.from.ensures) ∙ c.if-used-from.true) c.if-lane-bound.true

pub returns : goal.returns
returns c t e are = no_high t e c.args.lanes.now c.args.used.now are c.min-bound.result (c.min-bound.ensures ∙ ap (λ n. min n 8) c.count.ensures) (λ k low. c.loop-level.invariant k (omega (arith, low, c.loop-level-test.false)))
