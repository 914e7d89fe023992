use Rattle.std.proofs.Common.{◌≡◌, ◌≤◌, map, string_bytes, length}
use Rattle.fab_io.specs.MemoryShelf.{content_in}
use Rattle.fab_io.proofs.memory_shelf.newest.Given as goal

abbrev pub invariant-loop-older : goal.invariant-loop-older
invariant-loop-older l = record {
  told : content_in (map (λ entry. record { name = string_bytes entry.name; content = entry.content.items }) l.older) l.name ≡ content_in (map (λ entry. record { name = string_bytes entry.name; content = entry.content.items }) l.fn.entries) l.fn.name;
  within : length l.older ≤ length l.fn.entries;
}

abbrev pub decreases-loop-older : goal.decreases-loop-older
decreases-loop-older l = length l.older
