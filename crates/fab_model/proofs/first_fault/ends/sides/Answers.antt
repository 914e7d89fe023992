use Rattle.std.proofs.Common.{rules, arith, cond, true, sym, ap, ◌∙◌, ◌||◌, take}
use Rattle.std.specs.List.{list_any}
use Rattle.fab_model.specs.Records.{stated}
use Rattle.fab_model.specs.FirstFault.{ends_of, same_side}
use Rattle.fab_model.proofs.FirstFault.Stated.{any_stated_more}
use Rattle.fab_model.proofs.FirstFault.Repeats.{true-or}
use Rattle.fab_model.proofs.first_fault.ends.sides.Goals as goal

pub loop-link-preserved : goal.loop-link-preserved
loop-link-preserved c = λ side.
    let front = stated (record { nodes = c.nodes-nodes.result.now; links = take c.loop-link.link-index c.links-links.result.now }) in
    let before = list_any (λ one. same_side (ends_of one) side) front in
    c.in_ok-insert.ensures.updates.0 side
    ∙ ap (cond (same_side c.ends.result side) true) (c.loop-link.invariant side)
    ∙ true-or (same_side c.ends.result side) before
    ∙ ap (λ ends. before || same_side ends side) c.ends.ensures
    ∙ sym (any_stated_more (λ one. same_side (ends_of one) side) c.nodes-nodes.result.now c.links-links.result.now c.loop-link.link-index c.index-nodes-link.result (omega arith) (search rules) c.index-nodes-link.is)
