use Rattle.std.proofs.Common.{◌≡◌, ◌∙◌, refl, arith}
use Rattle.fab_sssp.specs.Passing.{yet_to_pass}
use Rattle.fab_tables.specs.TreeWalks.{terminals_through}
use Rattle.fab_sssp.proofs.Raising.TreePassing.{all_passed}
use Rattle.fab_sssp.proofs.Raising.PassingCounts.{begins_passing, yet_is_through, through_few}
use Rattle.fab_sssp.proofs.passing.add_terminals.Goals as goal

pub loop-s-init : goal.loop-s-init
loop-s-init c = record {
  weights = c.requires.weights;
  passing = begins_passing c.args.fabric.now c.args.tree.now c.switches-s-end.ensures.kept.rows c.count_terminals.new.arrived c.count_pending.new.pending (c.count_terminals.auto.arrived ∙ c.requires.arrived)
      (c.count_pending.auto.pending ∙ c.requires.pending) c.count_terminals.ensures c.count_pending.ensures;
  totals = λ channel low. refl;
  none_alone = λ s low same. omega (arith, low);
}

pub pass_on-requires-clause-fit : goal.pass_on-requires-clause-fit
pass_on-requires-clause-fit c = λ channel low.
    let t = c.args.fabric.now in
    let begun : yet_to_pass t c.args.tree.now c.count_terminals.new.arrived channel ≡ terminals_through t c.args.tree.now channel =
    yet_is_through t c.args.tree.now c.switches-s-end.ensures.kept.rows c.count_terminals.new.arrived c.count_pending.new.pending (c.count_terminals.auto.arrived ∙ c.requires.arrived)
    (c.count_pending.auto.pending ∙ c.requires.pending) c.count_terminals.ensures c.count_pending.ensures channel in
    omega (
      arith,
      c.loop-s.invariant.totals channel low,
      begun,
      through_few t c.args.tree.now channel,
      c.switches-s-end.ensures.kept.rows.lid_count,
      c.requires.small channel 0 (omega (arith, low, c.requires.weights)),
    )

pub returns-clause-added : goal.returns-clause-added
returns-clause-added c = λ channel low.
    let t = c.args.fabric.now in
    let begun : yet_to_pass t c.args.tree.now c.count_terminals.new.arrived channel ≡ terminals_through t c.args.tree.now channel =
    yet_is_through t c.args.tree.now c.switches-s-end.ensures.kept.rows c.count_terminals.new.arrived c.count_pending.new.pending (c.count_terminals.auto.arrived ∙ c.requires.arrived)
    (c.count_pending.auto.pending ∙ c.requires.pending) c.count_terminals.ensures c.count_pending.ensures channel in
    omega (
      arith,
      c.loop-s.invariant.totals channel low,
      begun,
      all_passed t c.args.tree.now c.requires.tree c.loop-s.arrived c.loop-s.pending c.loop-s.invariant.passing
          (λ s h. c.loop-s.invariant.none_alone s (omega (arith, h, c.loop-s-test.false, c.switches-s-end.ensures.count))) channel,
    )
