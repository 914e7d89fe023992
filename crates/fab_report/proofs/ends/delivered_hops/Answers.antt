use Rattle.std.proofs.Common.{List, ℕ, length, ap, ◌∙◌, arith}
use Rattle.fab_report.proofs.Reporting.Bounds.{route_short}
use Rattle.fab_report.proofs.ends.delivered_hops.Goals as goal

pub overflow_add-hops : goal.overflow_add-hops
overflow_add-hops c = omega (
  arith,
  ap (λ (xs : List ℕ). length xs) c.in-Some.ensures.steps.0,
  c.loop-hops.invariant.3,
  c.requires.toward.fabric.rows.switch_count,
  route_short c.args.fabric.now c.args.tables.now c.args.lid.0 (length c.args.fabric.now.switches) c.args.from.0,
)

pub loop-hops-preserved : goal.loop-hops-preserved
loop-hops-preserved c = (
  tt,
  tt,
  c.in-Some.ensures.steps.1 ∙ c.loop-hops.invariant.2,
  omega (arith, ap (λ (xs : List ℕ). length xs) c.in-Some.ensures.steps.0, c.loop-hops.invariant.3),
)
