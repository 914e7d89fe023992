use Rattle.std.proofs.Common.{◌∙◌, ap, arith, rules, Err}
use Rattle.fab_top.proofs.NamedGroups.{group_past, no_group_left}
use Rattle.fab_top.proofs.commands.groups.known_group.Goals as goal

pub loop-index-preserved : goal.loop-index-preserved
loop-index-preserved c =
    group_past c.args.groups.now c.args.number c.loop-index.index c.number.result (omega (arith, c.loop-index-test.true, c.count-index-end.ensures.count)) c.number.ensures c.loop-index.invariant c.if-number.false

pub returns-clause-taken : goal.returns-clause-taken
returns-clause-taken c =
    no_group_left c.args.groups.now c.args.number c.loop-index.index (omega (arith, c.loop-index-test.false, c.count-index-end.ensures.count)) c.loop-index.invariant ∙ ap (λ text. Err text) (search rules)
