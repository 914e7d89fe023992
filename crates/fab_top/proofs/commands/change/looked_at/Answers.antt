use Rattle.fab_top.proofs.Transiting.{bound_in_range, has_numbers, change_found}
use Rattle.fab_top.proofs.commands.change.looked_at.Goals as goal

pub mixed_text-requires-clause-count : goal.mixed_text-requires-clause-count
mixed_text-requires-clause-count c = bound_in_range c.args.fabric.now c.args.old.now c.args.new.now _ c.requires.old c.requires.new c.lane_bound.ensures

pub mixed_text-requires-clause-numbers : goal.mixed_text-requires-clause-numbers
mixed_text-requires-clause-numbers c = has_numbers c.args.fabric.now c.args.old.now c.args.new.now _ c.in_ok-mixed.ensures.answer

pub returns : goal.returns
returns c =
    change_found c.args.fabric.now c.args.old.now c.args.new.now _ _ _ _ c.in_ok-mixed.ensures.answer c.lane_bound.ensures c.in_ok-text.ensures c.told_change.ensures.answer c.told_change.ensures.can_be_put
