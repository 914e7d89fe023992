-- The dependencies of the switches so far are added.
use Rattle.std.proofs.Common.{◌≡◌, ◌≤◌}
use Rattle.fab_nue.proofs.Searching.Adding.{IsAdding}
use Rattle.fab_nue.proofs.adding.add_tree.Given as goal

abbrev pub invariant-loop-s : goal.invariant-loop-s
invariant-loop-s g l = record {
  adding : IsAdding l.fabric l.tree l.fn.used l.used l.s;
  channels : l.used.channels ≡ l.fn.used.channels;
  counted : l.fn.steps ≤ l.steps;
}
