-- No pair so far is missing.
use Rattle.std.proofs.Common.{ℕ, ◌<◌}
use Rattle.fab_updn.specs.Found.{IsMissingPair}
use Rattle.fab_updn.proofs.first_pair.first_missing.Given as goal

abbrev pub invariant-loop-from : goal.invariant-loop-from
invariant-loop-from l = (from to : ℕ) → from < l.from → to < l.switches → ¬ IsMissingPair l.hops l.costs from to
