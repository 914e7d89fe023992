use Rattle.std.proofs.Common.{◌≡◌, ◌+◌, ◌-◌, ◌≤◌, length}
use Rattle.std.specs.Io.KnownBytes.{Consumes}
use Rattle.fab_io.proofs.files.append_whole.Given as goal

abbrev pub invariant-loop-chunk : goal.invariant-loop-chunk
invariant-loop-chunk g l = record {
  taken : Consumes (g.I.Read.remaining l.fn.reader) (g.I.Read.remaining l.reader) l.into.items;
  within : length l.into.items ≤ l.limit + 1;
  same : l.limit ≡ l.fn.limit;
}

abbrev pub decreases-loop-chunk : goal.decreases-loop-chunk
decreases-loop-chunk g l = l.limit + 1 - length l.into.items
