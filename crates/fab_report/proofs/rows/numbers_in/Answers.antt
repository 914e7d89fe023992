use Rattle.std.proofs.Common.{◌≡◌, ◌<◌, ◌+◌, ◌*◌, Option, length, get_or, sym, ◌∙◌, subst, arith}
use Rattle.std.specs.Prelude.{IfSome}
use Rattle.std.proofs.lemmas.Bool.{cond-true, lt-ltb}
use Rattle.fab_tables.specs.Fit.{LanesFit}
use Rattle.fab_tables.specs.LaneTables.{LaneTables}
use Rattle.fab_report.proofs.Reporting.NumberCounts.{AreCounted, number_counted, zero_passed, counted_few, max_is}
use Rattle.fab_report.proofs.rows.numbers_in.Goals as goal
use Rattle.fab_report.proofs.rows.numbers_in.Goals.{then-number-ne0, else-number-ne0}

pub overflow_add-count : goal.overflow_add-count
overflow_add-count c =
    let fits : LanesFit c.args.fabric.now c.in-Some.lanes = subst (λ (o : Option LaneTables). IfSome o (LanesFit c.args.fabric.now)) c.in-Some.is c.requires.lanes in
    omega (arith, counted_few c.in-Some.lanes.numbers _ _ _ c.loop-lane.invariant, fits.whole.all_numbers, fits.channels, c.channels-channel-end.ensures.kept.rows.channel_count)

pub loop-lane-preserved : goal.loop-lane-preserved
loop-lane-preserved c =
    let fits : LanesFit c.args.fabric.now c.in-Some.lanes = subst (λ (o : Option LaneTables). IfSome o (LanesFit c.args.fabric.now)) c.in-Some.is c.requires.lanes in
    let numbers = c.in-Some.lanes.numbers in
    let n = c.loop-channel.channel * 15 + c.loop-lane.lane in
    let low : n < length numbers = omega (arith, fits.whole.all_numbers, fits.channels, c.channels-channel-end.ensures.count, c.loop-channel-test.true, c.loop-lane-test.true) in
    let at : c.number-number.result ≡ get_or numbers n 0 = c.number-number.ensures ∙ cond-true _ _ _ (lt-ltb c.loop-lane.lane 15 c.loop-lane-test.true) in
    let next : n + 1 ≡ c.loop-channel.channel * 15 + (c.loop-lane.lane + 1) = omega arith in
    subst (λ k. AreCounted numbers k c.if-number-ne0.count c.if-number-ne0.most) next
    (elim c.if-number-ne0.branch [
      | then-number-ne0 w ↦
          subst (λ k. AreCounted numbers (n + 1) k c.if-number-ne0.most) (sym w.count-is)
          (subst (λ k. AreCounted numbers (n + 1) (c.loop-lane.count + 1) k) (sym (w.most-is ∙ w.max-most.ensures ∙ max_is c.loop-lane.most c.number-number.result)) (number_counted numbers n c.loop-lane.count c.loop-lane.most c.number-number.result low at c.loop-lane.invariant w.if-number-ne0.true))
      | else-number-ne0 w ↦
          subst (λ k. AreCounted numbers (n + 1) k c.if-number-ne0.most) (sym w.count-is)
          (subst (λ k. AreCounted numbers (n + 1) c.loop-lane.count k) (sym w.most-is) (zero_passed numbers n c.loop-lane.count c.loop-lane.most c.number-number.result low at c.loop-lane.invariant w.if-number-ne0.false))
    ])
