use Rattle.std.proofs.Common.{◌∙◌, ap}
use Rattle.fab_dump.specs.declared.fault.PlanFault.TheVariants.{TwiceBlock, BadLaneRow}
use Rattle.fab_dump.specs.declared.form.Block.TheVariants.{MapRow}
use Rattle.fab_dump.specs.Given.Given.{MapBlock}
use Rattle.fab_dump.specs.Lines.{opens}
use Rattle.fab_dump.proofs.Reading.AfterHeads.{lanes_head, chosen_next, passed_next, named, not_named, says_same}
use Rattle.fab_dump.proofs.reader.PlanReader.map_head.Goals as goal

pub returns-then-not-has_lanes : goal.returns-then-not-has_lanes
returns-then-not-has_lanes c = λ f s stands orderly.
    lanes_head c.args.self.now.fabric.now f s c.args.self.now c.has_lanes.result _ _ stands c.has_lanes.ensures ∙ passed_next c.has_lanes.result _ _ c.if-not-has_lanes.true

pub returns-in-Some : goal.returns-in-Some
returns-in-Some c = λ f s stands orderly.
    says_same c.args.self.now.fabric.now f c.open_map.new.self c.open_map.result _ _
    (lanes_head c.args.self.now.fabric.now f s c.args.self.now c.has_lanes.result _ _ stands c.has_lanes.ensures ∙ chosen_next c.has_lanes.result _ _ c.if-not-has_lanes.false
    ∙ ap (opens (BadLaneRow c.args.line) (TwiceBlock c.args.line) s MapRow MapBlock) (named _ c.in-Some.switch c.in-Some.ensures.switch))
    (c.open_map.ensures f s stands orderly)

pub returns-in-None : goal.returns-in-None
returns-in-None c = λ f s stands orderly.
    lanes_head c.args.self.now.fabric.now f s c.args.self.now c.has_lanes.result _ _ stands c.has_lanes.ensures ∙ chosen_next c.has_lanes.result _ _ c.if-not-has_lanes.false
    ∙ ap (opens (BadLaneRow c.args.line) (TwiceBlock c.args.line) s MapRow MapBlock) (not_named _ c.in-None.ensures.switch)
