use Rattle.fab_lash.proofs.OwnLids.{toward_switch}
use Rattle.fab_lash.proofs.pair_routes.write_dependencies.Goals as goal

pub push_route-requires-clause-toward : goal.push_route-requires-clause-toward
push_route-requires-clause-toward c =
    toward_switch c.args.fabric.now c.args.tables.now c.args.high.0 c.switch.result.now c.requires.fabric c.requires.tables c.requires.high c.switch.ensures

pub push_route-requires-2-clause-toward : goal.push_route-requires-2-clause-toward
push_route-requires-2-clause-toward c =
    toward_switch c.args.fabric.now c.args.tables.now c.args.low.0 c.switch-2.result.now c.requires.fabric c.requires.tables c.requires.low c.switch-2.ensures
