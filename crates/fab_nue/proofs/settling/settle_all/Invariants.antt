-- The search is under way.
use Rattle.std.proofs.Common.{◌≡◌, ◌≤◌}
use Rattle.fab_depgraph.specs.Listed.{Dependencies}
use Rattle.fab_sssp.specs.WeightTables.{weight_of}
use Rattle.fab_nue.specs.Laws.{settled_count}
use Rattle.fab_nue.specs.UnderWay.{IsUnderWay, still_to_do}
use Rattle.fab_nue.proofs.settling.settle_all.Given as goal

abbrev pub invariant-loop-to : goal.invariant-loop-to
invariant-loop-to g l = record {
  under_way : (start : Dependencies) → IsUnderWay l.fabric (λ c. weight_of l.weights c) l.to.0 start l.fn.used l.fn.tree l.fn.choices.entries →
      IsUnderWay l.fabric (λ c. weight_of l.weights c) l.to.0 start l.used l.tree l.choices.entries;
  grows : settled_count l.fn.tree ≤ settled_count l.tree;
  channels : l.used.channels ≡ l.fn.used.channels;
  room : l.choices.room ≡ l.fn.choices.room;
  counted : l.fn.steps ≤ l.steps;
}

abbrev pub decreases-loop-to : goal.decreases-loop-to
decreases-loop-to g l = still_to_do l.fabric l.tree l.choices.entries
