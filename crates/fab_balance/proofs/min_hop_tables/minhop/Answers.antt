use Rattle.std.proofs.Common.{arith}
use Rattle.fab_tables.specs.FixedEntries.{HasChosenEntries}
use Rattle.fab_balance.specs.Eligible.{LeadsNearer}
use Rattle.fab_balance.specs.MinHop.{IsMinHopChoice}
use Rattle.fab_balance.proofs.Choosing.{no_switches, one_switch_more, all_switches}
use Rattle.fab_balance.proofs.LoadCounts.{balanced_kept}
use Rattle.fab_balance.proofs.Reaching.{nearer_reaches}
use Rattle.fab_balance.proofs.min_hop_tables.minhop.Goals as goal

pub choose_balanced-requires : goal.choose_balanced-requires
choose_balanced-requires c = record {
  fabric = c.switches-s-end.ensures.kept;
  hops = c.requires;
  switch = omega (arith, c.switches-s-end.ensures.count);
  fixed = c.loop-s.invariant.fixed;
}

pub loop-s-init : goal.loop-s-init
loop-s-init c = no_switches c.args.fabric.now (λ e. IsMinHopChoice c.args.fabric.now e) c.in_ok-tables.tables c.in_ok-tables.ensures

pub loop-s-preserved : goal.loop-s-preserved
loop-s-preserved c =
    let t = c.args.fabric.now in
    one_switch_more t (λ e. IsMinHopChoice t e) c.loop-s.tables c.choose_balanced.new.tables c.loop-s.s c.loop-s.invariant c.in_ok-choose_balanced.ensures.fixed c.in_ok-choose_balanced.ensures.chosen c.choose_balanced.ensures.others
    (λ o lid to port same choice. balanced_kept t c.loop-s.tables c.choose_balanced.new.tables o lid (λ n low. same n) (λ p. LeadsNearer t o to p) port choice)

pub returns : goal.returns
returns c =
    let t = c.args.fabric.now in
    let tables : HasChosenEntries t c.loop-s.tables (IsMinHopChoice t c.loop-s.tables) = all_switches t c.switches-s-end.ensures.kept.rows (λ e. IsMinHopChoice t e) c.loop-s.tables c.loop-s.s c.loop-s.invariant (omega (arith, c.switches-s-end.ensures.count)) in
    record {
      tables = tables;
      reaches = nearer_reaches t c.loop-s.tables c.switches-s-end.ensures.kept.rows (record { fixed = tables.fixed; chosen = λ s lid to is. (tables.chosen s lid to is).eligible });
    }
