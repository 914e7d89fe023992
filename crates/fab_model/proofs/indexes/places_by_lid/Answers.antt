use Rattle.std.proofs.Common.{refl, arith}
use Rattle.fab_model.proofs.Tables.{clone_of_none, are_by_lid_none, are_by_lid_more_terminal, are_by_lid_more_switch}
use Rattle.fab_model.proofs.indexes.places_by_lid.Goals as goal

pub loop-row-init : goal.loop-row-init
loop-row-init c = are_by_lid_none c.in_ok-places.places.items _ refl (c.in_ok-places.ensures.items_if_clones_equal (clone_of_none _ (λ x h. h)))

pub loop-row-preserved : goal.loop-row-preserved
loop-row-preserved c =
    are_by_lid_more_terminal c.args.terminals.now c.loop-row.row-index _ c.loop-row.places.items (omega arith) (omega arith) c.requires.terminals c.loop-row.invariant

pub loop-number-preserved : goal.loop-number-preserved
loop-number-preserved c =
    are_by_lid_more_switch c.args.switches.now c.args.terminals.now c.loop-number.number c.index-switches-number.result c.loop-number.places.items
    (omega arith) c.index-switches-number.is (omega arith) c.requires.switches c.loop-number.invariant
