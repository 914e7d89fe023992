use Rattle.std.proofs.Common.{take, []}
use Rattle.fab_model.specs.Indexed.{only, AreByLid}
use Rattle.fab_model.proofs.indexes.places_by_lid.Given as goal

abbrev pub invariant-loop-row : goal.invariant-loop-row
invariant-loop-row l = AreByLid (only [] [] (take l.row-index l.terminals)) l.places.items

abbrev pub invariant-loop-number : goal.invariant-loop-number
invariant-loop-number l = AreByLid (only (take l.number l.switches) [] l.terminals) l.places.items
