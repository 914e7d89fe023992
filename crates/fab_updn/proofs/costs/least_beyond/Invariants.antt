-- The least of the costs beyond the channels so far.
use Rattle.fab_updn.proofs.Beyond.{IsLeastSoFar}
use Rattle.fab_updn.proofs.costs.least_beyond.Given as goal

abbrev pub invariant-loop-number : goal.invariant-loop-number
invariant-loop-number l = IsLeastSoFar l.fabric l.ranks l.costs l.direction l.fn.s.0 l.number l.least
