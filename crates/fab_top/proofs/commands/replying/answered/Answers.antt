use Rattle.fab_top.proofs.Certifying.{few_lanes}
use Rattle.fab_top.proofs.Replying.{can_be_told, replies_found}
use Rattle.fab_top.proofs.commands.replying.answered.Goals as goal

pub replied_text-requires-clause-count : goal.replied_text-requires-clause-count
replied_text-requires-clause-count c = few_lanes c.args.fabric.now c.args.plan.now _ c.requires.fits c.lane_count.ensures

pub replied_text-requires-clause-told : goal.replied_text-requires-clause-told
replied_text-requires-clause-told c = can_be_told c.args.fabric.now c.args.plan.now _ c.in_ok-replied.ensures.answer

pub returns : goal.returns
returns c =
    replies_found c.args.fabric.now c.args.plan.now _ _ _ _ c.requires.fits c.in_ok-replied.ensures.answer c.lane_count.ensures c.in_ok-text.ensures c.told_replies.ensures.answer
    c.told_replies.ensures.can_be_put
