use Rattle.fab_top.proofs.Showing.{is_below, is_in_use}
use Rattle.fab_top.proofs.commands.route_between.Goals as goal

pub show-requires-clause-from : goal.show-requires-clause-from
show-requires-clause-from c = is_below c.args.fabric.now c.args.from.0 _ c.requires.fabric c.in_ok-place.ensures

pub show-requires-clause-in_use : goal.show-requires-clause-in_use
show-requires-clause-in_use c = is_in_use c.args.fabric.now c.args.to.0 _ c.in_ok-known_place.ensures
