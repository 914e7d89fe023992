use Rattle.std.proofs.Common.{◌≡◌, length, reverse, vec_len}
use Rattle.fab_report.specs.Order.{AreInOrder}
use Rattle.fab_report.proofs.Carrying.CarrySteps.{IsUnderWay}
use Rattle.fab_report.proofs.loads.add_routes.Given as goal

abbrev pub invariant-loop-channel : goal.invariant-loop-channel
invariant-loop-channel l = record {
  room : length l.order.marks.items ≡ length l.fabric.switches;
  order : AreInOrder l.fabric l.tables l.fn.lid.0 (reverse l.order.channels.items);
  carrying : IsUnderWay l.fabric l.tables l.fn.lid.0 l.fn.counts l.fn.amounts (reverse l.order.channels.items) l.counts l.amounts;
}

abbrev pub decreases-loop-channel : goal.decreases-loop-channel
decreases-loop-channel l = vec_len l.order.channels
