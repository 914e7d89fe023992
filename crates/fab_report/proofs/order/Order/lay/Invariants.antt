use Rattle.std.proofs.Common.{◌≡◌, ◌≢◌, ◌<◌, ℕ, [], length, reverse}
use Rattle.fab_report.specs.declared.order.Mark.TheVariants.{Unseen}
use Rattle.fab_report.specs.Order.{AreInOrder, AreMarks, mark_of}
use Rattle.fab_report.proofs.order.Order.lay.Given as goal

abbrev pub invariant-loop-s : goal.invariant-loop-s
invariant-loop-s l = record {
  room : length l.self.marks.items ≡ length l.fabric.switches;
  none : l.self.walked.items ≡ [];
  order : AreInOrder l.fabric l.tables l.fn.lid.0 (reverse l.self.channels.items);
  marks : AreMarks l.fabric l.tables l.fn.lid.0 (reverse l.self.channels.items) [] l.self.marks.items;
  seen : (s : ℕ) → s < l.s → mark_of l.self.marks.items s ≢ Unseen;
}
