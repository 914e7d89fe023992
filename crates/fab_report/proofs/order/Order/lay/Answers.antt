use Rattle.std.proofs.Common.{reverse, arith}
use Rattle.fab_report.proofs.Carrying.LayingSteps.{seen_laid}
use Rattle.fab_report.proofs.order.Order.lay.Goals as goal

pub returns-clause-order : goal.returns-clause-order
returns-clause-order c = record {
  in_order = c.loop-s.invariant.order;
  whole = λ s low. seen_laid c.args.fabric.now c.args.tables.now c.args.lid.0 (reverse c.loop-s.self.channels.items) c.loop-s.self.marks.items s c.loop-s.invariant.marks
      (c.loop-s.invariant.seen s (omega (arith, low, c.loop-s-test.false, c.switches-s-end.ensures.count)));
}
