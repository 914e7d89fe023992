-- The rows so far.
use Rattle.std.proofs.Common.{Vec, Global, map}
use Rattle.fab_updn.specs.declared.costs.Cost.{Cost}
use Rattle.fab_updn.proofs.CostRows.{AreCostRows}
use Rattle.fab_updn.proofs.cost_table.CostTable.of.Given as goal

abbrev pub invariant-loop-to : goal.invariant-loop-to
invariant-loop-to l = AreCostRows l.fabric l.ranks l.to (map (λ (row : Vec Cost Global). row.items) l.rows.items)
