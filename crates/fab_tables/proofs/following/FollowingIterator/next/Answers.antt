use Rattle.std.proofs.Common.{◌≡◌, suc, ◌-◌, length, Some, ap, rules, arith}
use Rattle.fab_tables.specs.Ahead.{ahead, StepsTo}
use Rattle.fab_tables.proofs.Paths.Steps.{tip_within, stepped, stopped}
use Rattle.fab_tables.proofs.following.FollowingIterator.next.Goals as goal

pub invariant_of-self-in-Ok : goal.invariant_of-self-in-Ok
invariant_of-self-in-Ok c =
    let kept = c.self.invariant in
    record { kept = kept.kept; fits = kept.fits; switch = tip_within c.self.inside.fabric.now kept.kept c.in-Ok.channel.0 c.tip-self-inside.result c.tip-self-inside.ensures }

pub returns-in-Ok-clause-steps : goal.returns-in-Ok-clause-steps
returns-in-Ok-clause-steps c =
    let f = c.self.inside in
    stepped f.fabric.now f.tables.now f.lid.0 f.at.0 f.left c.args.self.now c.in-Ok.channel c.tip-self-inside.result f.ended c.if-self-eq0.false (search rules) c.self.view_is c.in-Ok.ensures c.tip-self-inside.ensures

pub returns-in-Ok-clause-goes : goal.returns-in-Ok-clause-goes
returns-in-Ok-clause-goes c =
    let f = c.self.inside in
    let steps : StepsTo c.args.self.now (Some c.in-Ok.channel) (ahead f.fabric.now f.tables.now f.lid.0 c.tip-self-inside.result.0 (f.left - 1) f.ended)
    = stepped f.fabric.now f.tables.now f.lid.0 f.at.0 f.left c.args.self.now c.in-Ok.channel c.tip-self-inside.result f.ended c.if-self-eq0.false (search rules) c.self.view_is c.in-Ok.ensures c.tip-self-inside.ensures in
    let shorter : length c.args.self.now.channels ≡ suc (length (ahead f.fabric.now f.tables.now f.lid.0 c.tip-self-inside.result.0 (f.left - 1) f.ended).channels) = ap length steps.0 in
    record { on = λ _. (search rules, search rules, omega (arith, shorter)); keeps = search rules; rests = λ _. search rules }

pub returns-in-Err-clause-steps : goal.returns-in-Err-clause-steps
returns-in-Err-clause-steps c =
    let f = c.self.inside in
    stopped f.fabric.now f.tables.now f.lid.0 f.at.0 f.left c.args.self.now c.in-Err.end f.ended c.if-self-eq0.false (search rules) c.self.view_is c.in-Err.ensures
