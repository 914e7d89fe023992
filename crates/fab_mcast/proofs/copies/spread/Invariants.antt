use Rattle.std.proofs.Common.{◌≡◌, suc, length}
use Rattle.std.specs.Prelude.{slice_get, Some, flat_map}
use Rattle.fab_model.specs.declared.rows.TerminalRow.{TerminalRow}
use Rattle.fab_model.specs.WellFormed.{IsWellFormed}
use Rattle.fab_mcast.specs.GroupTrees.{entries_at}
use Rattle.fab_mcast.specs.Copies.{copies_within}
use Rattle.fab_mcast.specs.Sending.{seen_copies}
use Rattle.fab_mcast.specs.Spreads.{first_copy}
use Rattle.fab_mcast.proofs.Spreading.{IsSpreading}
use Rattle.fab_mcast.proofs.copies.spread.Given as goal

abbrev pub invariant-loop-copy : goal.invariant-loop-copy
invariant-loop-copy l = (good : IsWellFormed l.fabric) (row : TerminalRow) → slice_get l.fabric.terminals l.fn.from.0 ≡ Some row →
    IsSpreading l.fabric good (entries_at l.tables l.index) (first_copy row) (seen_copies l.pending.items) l.reached.items

abbrev pub decreases-loop-copy : goal.decreases-loop-copy
decreases-loop-copy l = length (flat_map (λ copy. copies_within l.fabric (entries_at l.tables l.index) (suc (length l.fabric.switches)) copy) (seen_copies l.pending.items))
