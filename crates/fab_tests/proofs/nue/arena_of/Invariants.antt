-- The arena is that of the fabric's channels.
use Rattle.std.proofs.Common.{◌≡◌, length}
use Rattle.fab_tests.proofs.nue.arena_of.Given as goal

abbrev pub invariant-loop-first : goal.invariant-loop-first
invariant-loop-first g l = l.used.channels ≡ length l.fabric.channels
