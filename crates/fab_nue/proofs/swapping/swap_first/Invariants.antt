-- No pair so far is allowed, and all is as it was.
use Rattle.std.proofs.Common.{◌≡◌, ◌<◌, ◌≤◌, ℕ}
use Rattle.fab_depgraph.specs.Listed.{IsListed}
use Rattle.fab_nue.specs.Search.{IsAllowed}
use Rattle.fab_nue.proofs.swapping.swap_first.Given as goal

abbrev pub invariant-loop-added : goal.invariant-loop-added
invariant-loop-added g l = record {
  stays : l.tree ≡ l.fn.tree;
  listed : l.used.listed ≡ l.fn.used.listed;
  spare : l.used.spare ≡ l.fn.used.spare;
  channels : l.used.channels ≡ l.fn.used.channels;
  counted : l.fn.steps ≤ l.steps;
  none : (c d : ℕ) → c < l.added → ¬ IsAllowed l.fabric (IsListed l.fn.used.listed) l.to.0 l.fn.tree c d;
}
