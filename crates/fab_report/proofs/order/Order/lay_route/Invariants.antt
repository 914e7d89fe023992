use Rattle.std.proofs.Common.{◌≡◌, length, reverse, vec_len}
use Rattle.fab_report.specs.Order.{AreInOrder, SeesMore, IsWalked}
use Rattle.fab_report.proofs.order.Order.lay_route.Given as goal

abbrev pub invariant-loop-channel : goal.invariant-loop-channel
invariant-loop-channel l = record {
  room : length l.self.marks.items ≡ length l.fabric.switches;
  order : AreInOrder l.fabric l.tables l.fn.lid.0 (reverse l.self.channels.items);
  walked : IsWalked l.fabric l.tables l.fn.lid.0 l.fn.from.0 (reverse l.self.channels.items) l.self.walked.items l.self.marks.items;
  seen : SeesMore l.fn.self.marks.items l.fn.from.0 l.self.marks.items;
}

abbrev pub decreases-loop-channel : goal.decreases-loop-channel
decreases-loop-channel l = vec_len l.self.walked
