use Rattle.fab_top.proofs.Loading.{as_many_loads, loads_found}
use Rattle.fab_top.proofs.commands.loaded.Goals as goal

pub load_text-requires : goal.load_text-requires
load_text-requires c = as_many_loads c.args.fabric.now c.args.plan.now.tables _ c.in_ok-loads.ensures

pub returns : goal.returns
returns c = loads_found c.args.fabric.now c.args.plan.now _ _ _ c.in_ok-loads.ensures c.in_ok-text.ensures c.done.ensures.answer c.done.ensures.can_be_put
