use Rattle.std.proofs.Common.{◌+◌, List, Vec, Global, map, sym, ◌∙◌, ap, subst}
use Rattle.fab_updn.specs.declared.costs.Cost.{Cost}
use Rattle.fab_updn.proofs.CostRows.{AreCostRows, one_row_more, map_push}
use Rattle.fab_updn.proofs.cost_table.CostTable.of.Goals as goal

abbrev items : Vec Cost Global → List Cost
items row = row.items

pub loop-to-preserved : goal.loop-to-preserved
loop-to-preserved c =
    let t = c.args.fabric.now in
    let ranks = c.args.ranks.now in
    let rows = c.loop-to.rows.items in
    let row = c.in_ok-costs_to.field-0 in
    let grown = ap (λ (xs : List (Vec Cost Global)). map items xs) c.in_ok-push.ensures.items ∙ map_push items rows row in
    subst (λ xs. AreCostRows t ranks (c.loop-to.to + 1) xs) (sym grown) (one_row_more t ranks c.loop-to.to (map items rows) row.items c.loop-to.invariant c.in_ok-costs_to.ensures)
