use Rattle.std.proofs.Common.{◌≡◌, ◌-◌, ◌+◌, map, find}
use Rattle.std.specs.Prelude.{◌%◌}
use Rattle.std.specs.List.{range_with_len}
use Rattle.fab_report.specs.Cabling.{has_free_port}
use Rattle.fab_report.proofs.random.Laid.first_free.Given as goal

abbrev pub invariant-loop-k : goal.invariant-loop-k
invariant-loop-k l =
    find (has_free_port l.self.cables) (map (λ k. (l.word % l.s + k) % l.s) (range_with_len l.k (l.s - l.k)))
    ≡ find (has_free_port l.self.cables) (map (λ k. (l.word % l.s + k) % l.s) (range_with_len 0 l.s))
