-- The switches so far have their entries.
use Rattle.fab_balance.specs.MinHop.{IsDorChoice}
use Rattle.fab_balance.proofs.Choosing.{IsChoosingSwitches}
use Rattle.fab_balance.proofs.dor_tables.dor.Given as goal

abbrev pub invariant-loop-s : goal.invariant-loop-s
invariant-loop-s l = IsChoosingSwitches l.fabric (λ e. IsDorChoice l.fabric) l.tables l.s
