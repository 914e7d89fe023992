use Rattle.std.proofs.Common.{◌≡◌, [], replicate, ℕ, map, Vec, Global}
use Rattle.fab_drain.proofs.turns.Waiting.new.Given as goal

abbrev pub invariant-loop : goal.invariant-loop
invariant-loop l = map (λ (v : Vec ℕ Global). v.items) l.lists.items ≡ replicate l.counter []
