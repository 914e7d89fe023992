use Rattle.std.proofs.Common.{◌≡◌, reverse}
use Rattle.fab_report.proofs.Carrying.WalkSteps.{IsWalking}
use Rattle.fab_report.proofs.order.Order.walk.Given as goal

abbrev pub invariant-loop-channel : goal.invariant-loop-channel
invariant-loop-channel l =
    (goal.iterator-loop-channel).can_next l.route × (goal.iterator-loop-channel).is_finite l.route
    × (l.self.channels ≡ l.fn.self.channels)
    × IsWalking l.fabric l.tables l.fn.lid.0 l.fn.from.0 (reverse l.fn.self.channels.items) l.fn.self.marks.items l.self.walked.items l.route l.at l.self.marks.items
