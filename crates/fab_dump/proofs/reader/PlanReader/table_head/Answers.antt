use Rattle.std.proofs.Common.{◌∙◌, sym, ap}
use Rattle.fab_dump.specs.Lines.{says_one_lid}
use Rattle.fab_dump.proofs.Reading.AfterHeads.{chosen_next, not_named, strange_head, after_strange_head}
use Rattle.fab_dump.proofs.reader.PlanReader.table_head.Goals as goal

pub returns : goal.returns
returns c = λ f s stands orderly. (
  _,
  strange_head c.args.self.now.fabric.now f c.args.line s _ c.in-Some.guid c.in-Some.ensures (not_named _ (sym c.in_default-switch_of.is ∙ c.switch_of.ensures))
      ∙ chosen_next (says_one_lid f.version) _ _ (sym (ap says_one_lid stands.version) ∙ sym c.says_one_lid.ensures ∙ c.if-not-says_one_lid.false),
  after_strange_head f s c.args.self.now stands,
)
