use Rattle.std.proofs.Common.{arith}
use Rattle.fab_balance.proofs.Choosing.{no_switches, one_switch_more, all_switches}
use Rattle.fab_balance.proofs.LoadCounts.{balanced_kept}
use Rattle.fab_updn.specs.UpDown.{IsUpDownChoice, IsLegalPort}
use Rattle.fab_updn.specs.Found.{costs_of}
use Rattle.fab_updn.proofs.CostRows.{are_costs}
use Rattle.fab_updn.proofs.tables.up_down_tables.Goals as goal

pub choose_balanced-requires : goal.choose_balanced-requires
choose_balanced-requires c = record {
  fabric = c.switches-s-end.ensures.kept;
  ranks = c.requires.ranks;
  costs = c.requires.costs;
  legal = c.requires.legal;
  switch = omega (arith, c.switches-s-end.ensures.count);
  fixed = c.loop-s.invariant.fixed;
}

pub loop-s-init : goal.loop-s-init
loop-s-init c = no_switches c.args.fabric.now (λ e. IsUpDownChoice c.args.fabric.now c.args.ranks.now (costs_of c.args.costs.now) e) c.in_ok-tables.tables c.in_ok-tables.ensures

pub loop-s-preserved : goal.loop-s-preserved
loop-s-preserved c =
    let t = c.args.fabric.now in
    let ranks = c.args.ranks.now in
    let table = c.args.costs.now in
    one_switch_more t (λ e. IsUpDownChoice t ranks (costs_of table) e) c.loop-s.tables c.choose_balanced.new.tables c.loop-s.s c.loop-s.invariant c.in_ok-choose_balanced.ensures.fixed c.in_ok-choose_balanced.ensures.chosen c.choose_balanced.ensures.others
    (λ o lid to port same choice. balanced_kept t c.loop-s.tables c.choose_balanced.new.tables o lid (λ n low. same n) (λ p. IsLegalPort t ranks (costs_of table to) to o p) port choice)

pub returns : goal.returns
returns c =
    let t = c.args.fabric.now in
    let ranks = c.args.ranks.now in
    let table = c.args.costs.now in
    let good = c.switches-s-end.ensures.kept.rows in
    record {
      cost = costs_of table;
      costs = λ to low. are_costs t good ranks to _ (c.requires.costs.each to low) low;
      entries = all_switches t good (λ e. IsUpDownChoice t ranks (costs_of table) e) c.loop-s.tables c.loop-s.s c.loop-s.invariant (omega (arith, c.switches-s-end.ensures.count));
    }
