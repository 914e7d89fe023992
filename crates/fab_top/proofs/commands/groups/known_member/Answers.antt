use Rattle.std.proofs.Common.{◌∙◌, length, sym, ap, arith, rules, Err}
use Rattle.fab_top.proofs.NamedGroups.{member_low, member_past, no_member_left}
use Rattle.fab_top.proofs.commands.groups.known_member.Goals as goal

pub terminal-requires : goal.terminal-requires
terminal-requires c = member_low (length c.args.fabric.now.terminals) c.args.members.now c.loop-member.member-index _ c.requires c.loop-member-test.true

pub loop-member-preserved : goal.loop-member-preserved
loop-member-preserved c =
    member_past c.args.fabric.now c.args.members.now c.args.lid.0 c.loop-member.member-index _ c.terminal.result c.loop-member-test.true c.terminal.ensures c.loop-member.invariant (sym c.eq.ensures ∙ c.if-eq.false)

pub returns-clause-taken : goal.returns-clause-taken
returns-clause-taken c =
    no_member_left c.args.fabric.now c.args.members.now c.args.lid.0 c.loop-member.member-index (omega (arith, c.loop-member-test.false)) c.loop-member.invariant ∙ ap (λ text. Err text) (search rules)
