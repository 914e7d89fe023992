use Rattle.std.proofs.Common.{arith}
use Rattle.fab_tables.specs.FixedEntries.{HasChosenEntries}
use Rattle.fab_balance.specs.MinHop.{IsDorChoice}
use Rattle.fab_balance.proofs.Choosing.{no_switches, one_switch_more, all_switches}
use Rattle.fab_balance.proofs.Reaching.{nearer_reaches}
use Rattle.fab_balance.proofs.dor_tables.dor.Goals as goal

pub choose_least-requires : goal.choose_least-requires
choose_least-requires c = record {
  fabric = c.switches-s-end.ensures.kept;
  hops = c.requires;
  switch = omega (arith, c.switches-s-end.ensures.count);
  fixed = c.loop-s.invariant.fixed;
}

pub loop-s-init : goal.loop-s-init
loop-s-init c = no_switches c.args.fabric.now (λ e. IsDorChoice c.args.fabric.now) c.in_ok-tables.tables c.in_ok-tables.ensures

pub loop-s-preserved : goal.loop-s-preserved
loop-s-preserved c =
    one_switch_more c.args.fabric.now (λ e. IsDorChoice c.args.fabric.now) c.loop-s.tables c.choose_least.new.tables c.loop-s.s c.loop-s.invariant c.choose_least.ensures.fixed c.choose_least.ensures.chosen c.choose_least.ensures.others
    (λ o lid to port same least. least)

pub returns : goal.returns
returns c =
    let t = c.args.fabric.now in
    let tables : HasChosenEntries t c.loop-s.tables (IsDorChoice t) = all_switches t c.switches-s-end.ensures.kept.rows (λ e. IsDorChoice t) c.loop-s.tables c.loop-s.s c.loop-s.invariant (omega (arith, c.switches-s-end.ensures.count)) in
    record {
      tables = tables;
      reaches = nearer_reaches t c.loop-s.tables c.switches-s-end.ensures.kept.rows (record { fixed = tables.fixed; chosen = λ s lid to is. (tables.chosen s lid to is).holds });
    }
