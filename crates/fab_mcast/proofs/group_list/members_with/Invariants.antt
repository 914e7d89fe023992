use Rattle.std.proofs.Common.{map}
use Rattle.fab_model.specs.declared.rows.TerminalId.{TerminalId}
use Rattle.fab_mcast.proofs.MembersByLid.{AreRead}
use Rattle.fab_mcast.proofs.group_list.members_with.Given as goal

abbrev pub invariant-loop-lid : goal.invariant-loop-lid
invariant-loop-lid l = AreRead l.fabric l.lid-items l.lid-index (map (λ (id : TerminalId). id.0) l.members.items)
