use Rattle.std.proofs.Common.{List, length, ap, arith}
use Rattle.fab_tables.specs.declared.verdict.VirtualChannel.{VirtualChannel}
use Rattle.fab_drain.proofs.HopCounts.{hops_short}
use Rattle.fab_drain.proofs.packet_hops.hop_count.Goals as goal

pub overflow_add-count : goal.overflow_add-count
overflow_add-count c = omega (
  arith,
  ap (λ (xs : List VirtualChannel). length xs) c.in-Some.ensures.steps,
  c.loop-count.invariant.2,
  c.requires.fabric.rows.switch_count,
  hops_short c.args.fabric.now c.args.plan.now c.args.terminal c.args.lid.0,
)

pub loop-count-preserved : goal.loop-count-preserved
loop-count-preserved c = (tt, tt, omega (arith, ap (λ (xs : List VirtualChannel). length xs) c.in-Some.ensures.steps, c.loop-count.invariant.2))
