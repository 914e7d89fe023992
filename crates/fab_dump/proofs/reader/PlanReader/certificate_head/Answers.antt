use Rattle.std.proofs.Common.{◌∙◌, sym, []}
use Rattle.fab_dump.specs.declared.fault.PlanFault.TheVariants.{TwiceBlock}
use Rattle.fab_dump.specs.declared.form.Block.TheVariants.{Numbers}
use Rattle.fab_dump.specs.Given.Given.{Certificate}
use Rattle.fab_dump.proofs.Reading.AfterHeads.{lanes_head, chosen_next, passed_next, new_added, old_refused, after_certificate}
use Rattle.fab_dump.proofs.reader.PlanReader.certificate_head.Goals as goal

pub returns-then-not-has_lanes : goal.returns-then-not-has_lanes
returns-then-not-has_lanes c = λ f s stands orderly.
    lanes_head c.args.self.now.fabric.now f s c.args.self.now c.has_lanes.result _ _ stands c.has_lanes.ensures ∙ passed_next c.has_lanes.result _ _ c.if-not-has_lanes.true

pub returns-then-self : goal.returns-then-self
returns-then-self c = λ f s stands orderly.
    lanes_head c.args.self.now.fabric.now f s c.args.self.now c.has_lanes.result _ _ stands c.has_lanes.ensures ∙ chosen_next c.has_lanes.result _ _ c.if-not-has_lanes.false
    ∙ old_refused (TwiceBlock c.args.line) s Numbers Certificate [] (sym stands.certificate ∙ c.if-self.true)

pub returns : goal.returns
returns c = λ f s stands orderly. (
  _,
  lanes_head c.args.self.now.fabric.now f s c.args.self.now c.has_lanes.result _ _ stands c.has_lanes.ensures ∙ chosen_next c.has_lanes.result _ _ c.if-not-has_lanes.false
      ∙ new_added (TwiceBlock c.args.line) s Numbers Certificate (sym stands.certificate ∙ c.if-self.false),
  after_certificate f s c.args.self.now stands,
)
