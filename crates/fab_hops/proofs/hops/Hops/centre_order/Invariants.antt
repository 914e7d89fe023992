-- The members of the component so far.
use Rattle.fab_hops.proofs.Members.{AreMembers}
use Rattle.fab_hops.proofs.hops.Hops.centre_order.Given as goal

abbrev pub invariant-loop-index : goal.invariant-loop-index
invariant-loop-index l = AreMembers l.self l.s.0 l.index l.members.items
