use Rattle.std.proofs.Common.{◌+◌, sym, ◌∙◌}
use Rattle.fab_netdiscover.proofs.OwnCables.{ended_without}
use Rattle.fab_netdiscover.proofs.reading.read.Goals as goal

pub returns-clause-no_own_cable : goal.returns-clause-no_own_cable
returns-clause-no_own_cable c = ended_without c.args.text.now c.loop-found.from (c.loop-found.line + 1) c.loop-found.raw c.loop-found.invariant.rest (sym c.next_line.ensures.line ∙ c.in_default.is)
