-- All behind the virtual channels at the places so far is seen.
use Rattle.std.proofs.Common.{◌*◌, ◌-◌}
use Rattle.fab_transit.proofs.GoingOn.{IsGoingOn}
use Rattle.fab_transit.proofs.walks.go_on.Given as goal

abbrev pub invariant-loop-taken : goal.invariant-loop-taken
invariant-loop-taken l = IsGoingOn l.plans.fabric l.plans.change l.lid.0 l.fn.walks l.found l.walks l.place

abbrev pub decreases-loop-taken : goal.decreases-loop-taken
decreases-loop-taken l = l.found.channels * l.found.bound * 16 - l.place
