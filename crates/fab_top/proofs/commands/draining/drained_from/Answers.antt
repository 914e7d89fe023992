use Rattle.std.proofs.Common.{◌∙◌, List, ℕ, ap}
use Rattle.fab_top.specs.DrainTexts.{waiting_text}
use Rattle.fab_top.proofs.Certifying.{few_lanes}
use Rattle.fab_top.proofs.Draining.{empty_found, waiting_found}
use Rattle.fab_top.proofs.commands.draining.drained_from.Goals as goal

pub waiting_text-requires : goal.waiting_text-requires
waiting_text-requires c = few_lanes c.args.fabric.now c.args.plan.now _ c.requires.fits c.lane_count-count.ensures

pub returns-in_ok-text-in-Empty : goal.returns-in_ok-text-in-Empty
returns-in_ok-text-in-Empty c =
    empty_found c.args.fabric.now c.args.plan.now _ _ _ _ c.in-Empty.moves _ _ c.requires.fabric c.requires.fits c.requires.admitted c.requires.filling c.in_ok-moves.ensures.ends c.in-Empty.is
    c.packets-packets.ensures c.in_ok-text-in-Empty.ensures c.done.ensures.answer c.done.ensures.can_be_put

pub returns-in_ok-text-in-Waiting : goal.returns-in_ok-text-in-Waiting
returns-in_ok-text-in-Waiting c =
    waiting_found c.args.fabric.now c.args.plan.now _ _ _ _ _ c.in-Waiting.moves c.in-Waiting.ring _ _ c.requires.fabric c.requires.fits c.requires.admitted c.requires.filling c.in_ok-moves.ensures.load
    c.in_ok-moves.ensures.ends c.in-Waiting.is c.lane_count-count.ensures c.packets.ensures
    (c.in_ok-text-in-Waiting.ensures ∙ ap (λ (ring : List ℕ). waiting_text c.args.fabric.now c.lane_count-count.result c.packets.result c.in-Waiting.moves ring) c.nodes.ensures)
    c.no.ensures.answer c.no.ensures.can_be_put
