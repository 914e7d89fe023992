-- The least of the hop counts to the roots so far.
use Rattle.std.proofs.Common.{take}
use Rattle.fab_updn.proofs.Nearest.{IsNearestOf}
use Rattle.fab_updn.proofs.ranks.nearest.Given as goal

abbrev pub invariant-loop-root : goal.invariant-loop-root
invariant-loop-root l = IsNearestOf l.hops l.s.0 (take l.root-index l.roots) l.least
