-- None of the channels so far leads from an unsettled switch to a settled one.
use Rattle.std.proofs.Common.{ℕ, ◌<◌}
use Rattle.fab_nue.specs.Turns.{Crosses}
use Rattle.fab_nue.proofs.completing.is_complete.Given as goal

abbrev pub invariant-loop-number : goal.invariant-loop-number
invariant-loop-number l = (c : ℕ) → c < l.number → ¬ Crosses l.fabric l.to.0 l.tree c
