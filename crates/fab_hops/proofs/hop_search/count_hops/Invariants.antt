-- Each turn takes one switch from the queue, and each switch that comes into it was found.
use Rattle.std.proofs.Common.{◌+◌, length}
use Rattle.fab_hops.specs.Searching.{IsQueue, unreached}
use Rattle.fab_hops.proofs.hop_search.count_hops.Given as goal

abbrev pub invariant-loop-switch : goal.invariant-loop-switch
invariant-loop-switch l = IsQueue l.fabric l.fn.start.0 l.row l.queue.items

abbrev pub decreases-loop-switch : goal.decreases-loop-switch
decreases-loop-switch l = unreached l.row + length l.queue.items
