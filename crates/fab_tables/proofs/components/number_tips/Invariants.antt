-- The switch is the first pending one, and the tips so far have the number.
use Rattle.std.proofs.Common.{◌≡◌, ◌+◌, length, count_by, is_none}
use Rattle.fab_tables.specs.Searching.{KeepsNumbers}
use Rattle.fab_tables.proofs.Joined.Tips.{IsNumberingTips}
use Rattle.fab_tables.proofs.components.number_tips.Given as goal

abbrev pub invariant-loop-channel : goal.invariant-loop-channel
invariant-loop-channel l =
    IsNumberingTips l.fabric l.number l.fn.switch l.numbers l.pending.items l.channel
    × KeepsNumbers l.fn.numbers l.numbers
    × (count_by is_none l.numbers + length l.pending.items ≡ count_by is_none l.fn.numbers + length l.fn.pending.items)
