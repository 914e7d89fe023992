use Rattle.fab_top.proofs.Draining.{fault_is_short, full_admitted, full_filling, refused_found}
use Rattle.fab_top.proofs.commands.draining.drained.Goals as goal

pub drained_from-requires-clause-admitted : goal.drained_from-requires-clause-admitted
drained_from-requires-clause-admitted c = full_admitted c.args.fabric.now c.args.plan.now _ _ c.in_ok-load.ensures c.in-Full.is

pub drained_from-requires-clause-filling : goal.drained_from-requires-clause-filling
drained_from-requires-clause-filling c = full_filling c.args.fabric.now c.args.plan.now _ _ c.in_ok-load.ensures c.in-Full.is

pub verdict_text-requires : goal.verdict_text-requires
verdict_text-requires c = fault_is_short c.args.fabric.now c.args.plan.now _ _ c.in_ok-load.ensures c.in-Refused.is

pub returns-in_ok-text-in-Refused : goal.returns-in_ok-text-in-Refused
returns-in_ok-text-in-Refused c =
    refused_found c.args.fabric.now c.args.plan.now c.in-Refused.fault _ _ _ c.in_ok-load.ensures c.in-Refused.is c.in_ok-text-in-Refused.ensures c.no.ensures.answer c.no.ensures.can_be_put
