use Rattle.std.proofs.Common.{◌∙◌, length-set}
use Rattle.fab_sssp.proofs.Raising.PassingCounts.{terminal_counted}
use Rattle.fab_sssp.proofs.passing.count_terminals.Goals as goal

pub loop-number-preserved : goal.loop-number-preserved
loop-number-preserved c = (
  length-set c.loop-number.arrived _ _ ∙ c.loop-number.invariant.0,
  terminal_counted c.args.fabric.now c.terminals-number-end.ensures.kept.rows c.loop-number.number c.terminal.result c.terminal.ensures c.loop-number.arrived c.loop-number.invariant.0 c.loop-number.invariant.1,
)
