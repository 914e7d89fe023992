use Rattle.std.proofs.Common.{◌≡◌, ◌≤◌, map, length}
use Rattle.fab_io.specs.MemorySink.{kept_at}
use Rattle.fab_io.proofs.memory_sink.kept_at.Given as goal

abbrev pub invariant-loop-older : goal.invariant-loop-older
invariant-loop-older l = record {
  told : kept_at (map (λ named. record { call = named.call; kept = named.kept }) l.older) l.call ≡ kept_at (map (λ named. record { call = named.call; kept = named.kept }) l.fn.failing) l.fn.call;
  within : length l.older ≤ length l.fn.failing;
}

abbrev pub decreases-loop-older : goal.decreases-loop-older
decreases-loop-older l = length l.older
