-- No pair so far is allowed, and all is as it was.
use Rattle.std.proofs.Common.{◌≡◌, ◌<◌, ◌≤◌, ℕ}
use Rattle.fab_depgraph.specs.Listed.{IsListed}
use Rattle.fab_nue.specs.Search.{IsAllowed}
use Rattle.fab_nue.proofs.swapping.swap_adding.Given as goal

abbrev pub invariant-loop-turned : goal.invariant-loop-turned
invariant-loop-turned g l = record {
  stays : l.tree ≡ l.fn.tree;
  listed : l.used.listed ≡ l.fn.used.listed;
  spare : l.used.spare ≡ l.fn.used.spare;
  channels : l.used.channels ≡ l.fn.used.channels;
  counted : l.fn.steps ≤ l.steps;
  none : (d : ℕ) → d < l.turned → ¬ IsAllowed l.fabric (IsListed l.fn.used.listed) l.to.0 l.fn.tree l.added.0 d;
}
