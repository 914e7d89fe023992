use Rattle.fab_top.proofs.Spreading.{group_stops, member_stops, member_found, member_there, members_low}
use Rattle.fab_top.proofs.commands.groups.reached.Goals as goal

pub returns-in_err-index : goal.returns-in_err-index
returns-in_err-index c = group_stops c.args.fabric.now c.args.groups.now c.args.group c.args.lid.0 _ _ c.in_err-index.ensures.taken c.from_residual.ensures.1

pub known_member-requires : goal.known_member-requires
known_member-requires c = members_low c.args.fabric.now c.args.groups.now _ _ c.requires.known c.members.ensures

pub returns-in_err-from : goal.returns-in_err-from
returns-in_err-from c =
    member_stops c.args.fabric.now c.args.groups.now c.args.group c.args.lid.0 _ _ _ _ c.in_ok-index.ensures.taken c.members.ensures c.in_err-from.ensures.taken c.from_residual-in_err-from.ensures.1

pub reached_from-requires-clause-member : goal.reached_from-requires-clause-member
reached_from-requires-clause-member c = member_there c.args.groups.now _ _ _ c.members.ensures c.in_ok-from.ensures.member

pub returns : goal.returns
returns c =
    member_found c.args.fabric.now c.args.groups.now c.args.group c.args.lid.0 _ _ _ _ c.in_ok-index.ensures.taken c.members.ensures c.in_ok-from.ensures.taken c.reached_from.ensures
