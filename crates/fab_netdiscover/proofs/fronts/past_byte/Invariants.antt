use Rattle.std.proofs.Common.{◌≡◌, ◌+◌, length, drop}
use Rattle.std.specs.Prelude.{◌==◌, position, option_map}
use Rattle.fab_netdiscover.proofs.fronts.past_byte.Given as goal

abbrev pub invariant-loop-rest : goal.invariant-loop-rest
invariant-loop-rest l = option_map (λ count. drop (count + 1) l.rest) (position (λ one. one == l.byte) l.rest) ≡ option_map (λ count. drop (count + 1) l.fn.bytes) (position (λ one. one == l.byte) l.fn.bytes)

abbrev pub decreases-loop-rest : goal.decreases-loop-rest
decreases-loop-rest l = length l.rest
