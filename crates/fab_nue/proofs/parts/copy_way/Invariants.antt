-- The switches on the way so far have their channels.
use Rattle.std.proofs.Common.{◌≡◌, ◌<◌, ◌⊎◌, ℕ, Some, length}
use Rattle.fab_tables.specs.Trees.{next}
use Rattle.fab_tables.specs.TreeWalks.{walk_of}
use Rattle.fab_nue.specs.Search.{Passes}
use Rattle.fab_nue.proofs.parts.copy_way.Given as goal

abbrev pub invariant-loop-channel : goal.invariant-loop-channel
invariant-loop-channel l = record {
  low : l.at.0 < length l.fabric.switches;
  each_switch : length l.part ≡ length l.fn.part;
  on : (x : ℕ) → Passes l.fabric l.whole l.at.0 x → Passes l.fabric l.whole l.fn.from.0 x;
  taken : (x c : ℕ) → Passes l.fabric l.whole l.fn.from.0 x → next l.whole x ≡ Some c → Passes l.fabric l.whole l.at.0 x ⊎ (next l.part x ≡ Some c);
  kept : (x c : ℕ) → next l.fn.part x ≡ Some c → next l.whole x ≡ Some c → next l.part x ≡ Some c;
  only : (x c : ℕ) → next l.part x ≡ Some c → (next l.fn.part x ≡ Some c) ⊎ (Passes l.fabric l.whole l.fn.from.0 x × (next l.whole x ≡ Some c));
}

abbrev pub decreases-loop-channel : goal.decreases-loop-channel
decreases-loop-channel l = length (walk_of l.fabric l.whole l.at.0)
