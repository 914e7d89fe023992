use Rattle.std.proofs.Common.{◌∙◌, sym, ap, Some, None}
use Rattle.std.specs.Prelude.{if◌then◌else◌}
use Rattle.fab_dump.specs.declared.fault.PlanFault.TheVariants.{TwiceBlock, BadLevelRow}
use Rattle.fab_dump.specs.declared.form.Block.TheVariants.{Levels}
use Rattle.fab_dump.specs.Given.Given.{LevelBlock}
use Rattle.fab_dump.specs.Lines.{a_source, opens}
use Rattle.fab_dump.proofs.Reading.AfterHeads.{lanes_head, chosen_next, passed_next, named, not_named, source_named, says_same}
use Rattle.fab_dump.proofs.reader.PlanReader.levels_head.Goals as goal

pub returns-then-not-has_lanes : goal.returns-then-not-has_lanes
returns-then-not-has_lanes c = λ f s stands orderly.
    lanes_head c.args.self.now.fabric.now f s c.args.self.now c.has_lanes.result _ _ stands c.has_lanes.ensures ∙ passed_next c.has_lanes.result _ _ c.if-not-has_lanes.true

pub returns-in_default : goal.returns-in_default
returns-in_default c = λ f s stands orderly.
    lanes_head c.args.self.now.fabric.now f s c.args.self.now c.has_lanes.result _ _ stands c.has_lanes.ensures ∙ chosen_next c.has_lanes.result _ _ c.if-not-has_lanes.false
    ∙ ap (λ o. opens (BadLevelRow c.args.line) (TwiceBlock c.args.line) s Levels LevelBlock (a_source c.args.self.now.fabric.now o)) (not_named _ (sym c.in_default.is ∙ c.head_switch.ensures.switch))

pub returns-then-not-has_terminal : goal.returns-then-not-has_terminal
returns-then-not-has_terminal c = λ f s stands orderly.
    lanes_head c.args.self.now.fabric.now f s c.args.self.now c.has_lanes.result _ _ stands c.has_lanes.ensures ∙ chosen_next c.has_lanes.result _ _ c.if-not-has_lanes.false
    ∙ ap (λ o. opens (BadLevelRow c.args.line) (TwiceBlock c.args.line) s Levels LevelBlock (a_source c.args.self.now.fabric.now o)) (named _ c.in-Some.switch c.in-Some.ensures.switch)
    ∙ ap (opens (BadLevelRow c.args.line) (TwiceBlock c.args.line) s Levels LevelBlock)
    (source_named c.args.self.now.fabric.now c.in-Some.switch.0 c.has_terminal.result c.has_terminal.ensures ∙ ap (λ b. if b then Some c.in-Some.switch.0 else None) c.if-not-has_terminal.true)

pub returns : goal.returns
returns c = λ f s stands orderly.
    says_same c.args.self.now.fabric.now f c.open_levels.new.self c.open_levels.result _ _
    (lanes_head c.args.self.now.fabric.now f s c.args.self.now c.has_lanes.result _ _ stands c.has_lanes.ensures ∙ chosen_next c.has_lanes.result _ _ c.if-not-has_lanes.false
    ∙ ap (λ o. opens (BadLevelRow c.args.line) (TwiceBlock c.args.line) s Levels LevelBlock (a_source c.args.self.now.fabric.now o)) (named _ c.in-Some.switch c.in-Some.ensures.switch)
    ∙ ap (opens (BadLevelRow c.args.line) (TwiceBlock c.args.line) s Levels LevelBlock)
    (source_named c.args.self.now.fabric.now c.in-Some.switch.0 c.has_terminal.result c.has_terminal.ensures ∙ ap (λ b. if b then Some c.in-Some.switch.0 else None) c.if-not-has_terminal.false))
    (c.open_levels.ensures f s stands orderly)
