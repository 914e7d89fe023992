-- The LIDs so far have the least ports.
use Rattle.fab_balance.specs.MinHop.{IsDorChoice}
use Rattle.fab_balance.proofs.Choosing.{IsChoosing}
use Rattle.fab_balance.proofs.dor_tables.choose_least.Given as goal

abbrev pub invariant-loop-lid : goal.invariant-loop-lid
invariant-loop-lid l = IsChoosing l.fabric (λ e. IsDorChoice l.fabric) l.fn.s.0 l.fn.tables l.tables l.lid-index
