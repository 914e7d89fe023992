use Rattle.std.proofs.Common.{length, arith}
use Rattle.fab_model.specs.Topology.{lids_of}
use Rattle.fab_top.proofs.Sweeping.{least_more}
use Rattle.fab_top.proofs.sweep_texts.least_kept.Goals as goal

pub loop-row-preserved : goal.loop-row-preserved
loop-row-preserved c =
    least_more (length (lids_of c.args.fabric.now)) c.args.rows.now c.loop-row.row-index c.loop-row.least _ (omega (arith, c.loop-row-test.true)) c.loop-row.invariant c.min-least.ensures
