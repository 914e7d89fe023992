use Rattle.std.proofs.Common.{ap, ◌∙◌, ◌++◌}
use Rattle.fab_top.proofs.Judging.{short_lanes}
use Rattle.fab_top.proofs.Laying.EngineAnswers.{counts_told}
use Rattle.fab_top.proofs.routing.counted.Goals as goal

pub verdict_text-requires : goal.verdict_text-requires
verdict_text-requires c = short_lanes c.args.fabric.now c.args.plan.now _ c.requires.fits c.in_ok-verdict.ensures.is

pub returns-clause-summary : goal.returns-clause-summary
returns-clause-summary c =
    counts_told c.args.fabric.now c.args.plan.now _ c.in_ok-counts.counts _ _ _ _ c.in_ok-verdict.ensures.is c.in_ok-counts.ensures c.in_ok-text.ensures c.in_ok-line.ensures
    (c.in_ok-extend_from_slice.ensures.items ∙ ap (λ xs. c.in_ok-text.text.items ++ xs) c.deref.ensures.value) c.done.ensures.answer
