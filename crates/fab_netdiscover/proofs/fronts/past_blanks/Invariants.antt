use Rattle.std.proofs.Common.{◌≡◌, length}
use Rattle.fab_netdiscover.specs.Fronts as fronts
use Rattle.fab_netdiscover.proofs.fronts.past_blanks.Given as goal

abbrev pub invariant-loop-rest : goal.invariant-loop-rest
invariant-loop-rest l = fronts.past_blanks l.rest ≡ fronts.past_blanks l.fn.bytes

abbrev pub decreases-loop-rest : goal.decreases-loop-rest
decreases-loop-rest l = length l.rest
