use Rattle.std.proofs.Common.{◌∙◌, arith}
use Rattle.fab_report.proofs.Reporting.NumberCounts.{max_is}
use Rattle.fab_top.proofs.Sweeping.{greatest_more}
use Rattle.fab_top.proofs.sweep_texts.greatest_changed.Goals as goal

pub loop-row-preserved : goal.loop-row-preserved
loop-row-preserved c =
    greatest_more c.args.rows.now c.loop-row.row-index c.loop-row.greatest _ (omega (arith, c.loop-row-test.true)) c.loop-row.invariant (c.max-greatest.ensures ∙ max_is c.loop-row.greatest _)
