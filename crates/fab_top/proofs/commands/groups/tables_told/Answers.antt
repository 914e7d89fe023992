use Rattle.fab_top.proofs.Spreading.{as_many_tables, mcast_found}
use Rattle.fab_top.proofs.commands.groups.tables_told.Goals as goal

pub groups_text-requires-clause-as_many : goal.groups_text-requires-clause-as_many
groups_text-requires-clause-as_many c = as_many_tables c.args.fabric.now c.args.groups.now _ c.in_ok-tables.ensures.planted

pub returns : goal.returns
returns c =
    mcast_found c.args.fabric.now c.args.groups.now _ _ _ c.requires.fabric c.requires.known c.in_ok-tables.ensures.planted c.in_ok-text.ensures c.done.ensures.answer c.done.ensures.can_be_put
