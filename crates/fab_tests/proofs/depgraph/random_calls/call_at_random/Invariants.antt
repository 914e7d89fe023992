use Rattle.std.proofs.Common.{◌≡◌}
use Rattle.fab_tests.proofs.depgraph.random_calls.call_at_random.Given as goal

abbrev pub invariant-loop : goal.invariant-loop
invariant-loop g l = l.graph.channels ≡ 12
