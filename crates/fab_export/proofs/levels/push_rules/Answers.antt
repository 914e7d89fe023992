use Rattle.std.proofs.Common.{◌∙◌, ap, sym, arith, Vec, ℕ}
use Rattle.fab_export.specs.LevelsText.{rule_lines}
use Rattle.fab_export.specs.Policies.{level_rule}
use Rattle.fab_export.specs.SourceLevels.{row_has}
use Rattle.fab_export.proofs.PartPuts.{chosen_more, chosen_less, all_chosen}
use Rattle.fab_export.proofs.levels.push_rules.Goals as goal
use Rattle.fab_export.proofs.levels.push_rules.Goals.{then-has_level+in_ok-push_rule, else-has_level}

pub loop-level-preserved : goal.loop-level-preserved
loop-level-preserved c = elim c.if-has_level.branch [
  | then-has_level+in_ok-push_rule w ↦
      ap (λ (v : Vec _ _). v.items) w.text-is
      ∙ chosen_more (row_has c.args.row.now) (λ (level : ℕ). rule_lines (level_rule c.args.class level)) c.loop-level.level c.args.text.now.items c.loop-level.text.items c.loop-level.invariant
      (sym c.has_level.ensures ∙ w.if-has_level.true) w.push_rule.new.text.items w.in_ok-push_rule.ensures
  | else-has_level w ↦
      ap (λ (v : Vec _ _). v.items) w.text-is
      ∙ chosen_less (row_has c.args.row.now) (λ (level : ℕ). rule_lines (level_rule c.args.class level)) c.loop-level.level c.args.text.now.items c.loop-level.text.items c.loop-level.invariant
      (sym c.has_level.ensures ∙ w.if-has_level.false)
]

pub returns : goal.returns
returns c =
    all_chosen rule_lines (level_rule c.args.class) (row_has c.args.row.now) c.loop-level.level 16 c.args.text.now.items c.loop-level.text.items
    (omega (arith, c.loop-level-test.false, c.loop-level.auto.level-end)) c.loop-level.invariant
