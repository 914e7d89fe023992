-- The packets so far are offered.
use Rattle.std.proofs.Common.{◌≡◌, Some}
use Rattle.std.specs.Prelude.{slice_get}
use Rattle.fab_model.specs.declared.rows.TerminalRow.{TerminalRow}
use Rattle.fab_drain.proofs.FillingOn.{IsOffering}
use Rattle.fab_drain.proofs.state.State.offer_from.Given as goal

abbrev pub invariant-loop-at : goal.invariant-loop-at
invariant-loop-at l =
    (goal.iterator-loop-at).can_next l.at-iterator × (goal.iterator-loop-at).is_finite l.at-iterator
    × ((row : TerminalRow) → slice_get l.fabric.terminals l.terminal.0 ≡ Some row → IsOffering l.fabric l.plan row l.fn.lid l.at-iterator.hops l.position l.remaining l.self)
