-- No pair so far is missing.
use Rattle.std.proofs.Common.{ℕ, ◌<◌}
use Rattle.fab_updn.specs.Found.{IsMissingPair}
use Rattle.fab_updn.proofs.first_pair.first_from.Given as goal

abbrev pub invariant-loop-to : goal.invariant-loop-to
invariant-loop-to l = (to : ℕ) → to < l.to → ¬ IsMissingPair l.hops l.costs l.fn.from.0 to
