use Rattle.std.proofs.Common.{subst}
use Rattle.fab_updn.specs.UpDown.{AreUpDownTables}
use Rattle.fab_updn.specs.Found.{AreAllCosts}
use Rattle.fab_updn.proofs.Pairs.{none_lacks, first_lacks}
use Rattle.fab_updn.proofs.up_down.legal_tables.Goals as goal

pub returns-in-Some-clause-refusal : goal.returns-in-Some-clause-refusal
returns-in-Some-clause-refusal c =
    let t = c.args.fabric.now in
    let ranks = c.in_ok-ranks.ranks.items in
    let are : AreAllCosts t ranks c.in_ok-costs.costs = subst (λ xs. AreAllCosts t xs c.in_ok-costs.costs) c.deref.ensures.value c.in_ok-costs.ensures in (
      ranks,
      c.in_ok-ranks.ensures,
      first_lacks t c.switches.ensures.kept.rows c.args.hops.now c.requires.hops ranks c.in_ok-ranks.ensures.whole c.in_ok-costs.costs are c.switches.result c.switches.ensures.count c.in-Some.from.0 c.in-Some.to.0 c.in-Some.ensures,
    )

pub returns-clause-tables : goal.returns-clause-tables
returns-clause-tables c =
    let t = c.args.fabric.now in
    let ranks = c.in_ok-ranks.ranks.items in
    let are : AreAllCosts t ranks c.in_ok-costs.costs = subst (λ xs. AreAllCosts t xs c.in_ok-costs.costs) c.deref.ensures.value c.in_ok-costs.ensures in
    record {
      ranks = ranks;
      are_ranks = c.in_ok-ranks.ensures;
      legal = none_lacks t c.switches.ensures.kept.rows c.args.hops.now c.requires.hops ranks c.in_ok-ranks.ensures.whole c.in_ok-costs.costs are c.switches.result c.switches.ensures.count c.in_default.ensures;
      tables = subst (λ xs. AreUpDownTables t xs c.in_ok-tables.tables) c.deref-2.ensures.value c.in_ok-tables.ensures;
    }
