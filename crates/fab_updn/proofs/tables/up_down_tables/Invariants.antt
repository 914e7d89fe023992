-- The switches so far have their entries.
use Rattle.fab_updn.specs.UpDown.{IsUpDownChoice}
use Rattle.fab_updn.specs.Found.{costs_of}
use Rattle.fab_balance.proofs.Choosing.{IsChoosingSwitches}
use Rattle.fab_updn.proofs.tables.up_down_tables.Given as goal

abbrev pub invariant-loop-s : goal.invariant-loop-s
invariant-loop-s l = IsChoosingSwitches l.fabric (λ e. IsUpDownChoice l.fabric l.ranks (costs_of l.costs) e) l.tables l.s
