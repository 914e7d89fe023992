-- The rows so far have their hop counts, and the others none yet.
use Rattle.std.proofs.Common.{◌≡◌, []}
use Rattle.fab_hops.proofs.Rows.{AreRows}
use Rattle.fab_hops.proofs.hops.Hops.of.Given as goal

abbrev pub invariant-loop-start : goal.invariant-loop-start
invariant-loop-start l = record {
  rows : AreRows l.fabric l.start l.codes.items;
  empty : l.queue.items ≡ [];
}
