use Rattle.std.proofs.Common.{◌+◌, ◌∙◌, sym, arith}
use Rattle.fab_report.proofs.Reporting.HopSums.{source_added, other_passed, hops_few}
use Rattle.fab_report.proofs.rows.hops_to.Goals as goal
use Rattle.fab_report.proofs.rows.hops_to.Goals.{then-has_terminal, else-has_terminal}

pub overflow_add-hops : goal.overflow_add-hops
overflow_add-hops c = omega (
  arith,
  c.loop-s.invariant,
  c.from-hops.ensures,
  c.delivered_hops.ensures,
  source_added c.args.fabric.now c.args.tables.now c.args.lid.0 c.loop-s.s (sym c.has_terminal.ensures ∙ c.if-has_terminal.true),
  hops_few c.args.fabric.now c.args.tables.now c.args.lid.0 (c.loop-s.s + 1) c.requires.fabric (omega (arith, c.loop-s-test.true, c.switches-s-end.ensures.count, c.requires.fabric.rows.switch_count)),
)

pub loop-s-preserved : goal.loop-s-preserved
loop-s-preserved c =
    let t = c.args.fabric.now in
    let e = c.args.tables.now in
    let lid = c.args.lid.0 in
    let s = c.loop-s.s in
    elim c.if-has_terminal.branch [
      | then-has_terminal w ↦ omega (arith, w.hops-is, c.loop-s.invariant, w.from-hops.ensures, w.delivered_hops.ensures, source_added t e lid s (sym c.has_terminal.ensures ∙ w.if-has_terminal.true))
      | else-has_terminal w ↦ omega (arith, w.hops-is, c.loop-s.invariant, other_passed t e lid s (sym c.has_terminal.ensures ∙ w.if-has_terminal.false))
    ]

pub returns-clause-small : goal.returns-clause-small
returns-clause-small c =
    omega (arith, c.loop-s.invariant, hops_few c.args.fabric.now c.args.tables.now c.args.lid.0 c.loop-s.s c.requires.fabric (omega (arith, c.loop-s.auto.s-end, c.switches-s-end.ensures.count, c.requires.fabric.rows.switch_count)))
