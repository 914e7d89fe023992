-- The search is under way.
use Rattle.std.proofs.Common.{◌≡◌, ◌-◌, ◌≤◌, length}
use Rattle.fab_depgraph.specs.Listed.{Dependencies}
use Rattle.fab_sssp.specs.WeightTables.{weight_of}
use Rattle.fab_nue.specs.Laws.{settled_count}
use Rattle.fab_nue.specs.UnderWay.{IsUnderWay}
use Rattle.fab_nue.proofs.guarded_search.take_steps.Given as goal

abbrev pub invariant-loop-to : goal.invariant-loop-to
invariant-loop-to g l = record {
  under_way : (before : Dependencies) → l.start.0 ≡ length before.listed → IsUnderWay l.fabric (λ c. weight_of l.weights c) l.to.0 before l.fn.used l.fn.tree l.fn.choices.entries →
      IsUnderWay l.fabric (λ c. weight_of l.weights c) l.to.0 before l.used l.tree l.choices.entries;
  channels : l.used.channels ≡ l.fn.used.channels;
  room : l.choices.room ≡ l.fn.choices.room;
  counted : l.fn.steps ≤ l.steps;
}

-- the switches without a channel
abbrev pub decreases-loop-to : goal.decreases-loop-to
decreases-loop-to g l = length l.fabric.switches - settled_count l.tree
