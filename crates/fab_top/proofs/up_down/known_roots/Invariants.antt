-- The roots so far.
use Rattle.fab_top.proofs.Laying.Roots.{RootsSoFar}
use Rattle.fab_top.proofs.up_down.known_roots.Given as goal

abbrev pub invariant-loop-guid : goal.invariant-loop-guid
invariant-loop-guid l = RootsSoFar l.fabric l.guids l.guid-index l.roots.items
