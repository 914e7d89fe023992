use Rattle.std.proofs.Common.{◌≡◌, length}
use Rattle.std.specs.Prelude.{◌-◌, find, slice_get}
use Rattle.std.specs.List.{range_with_len}
use Rattle.fab_top.specs.Files.{has_number}
use Rattle.fab_top.proofs.commands.groups.known_group.Given as goal

-- no group before has the number
abbrev pub invariant-loop-index : goal.invariant-loop-index
invariant-loop-index l =
    find (λ n. has_number l.number (slice_get l.groups n)) (range_with_len l.index (length l.groups - l.index))
    ≡ find (λ n. has_number l.number (slice_get l.groups n)) (range_with_len 0 (length l.groups))
