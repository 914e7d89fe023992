use Rattle.std.proofs.Common.{◌∙◌, ap, sym, arith, Vec, ℕ}
use Rattle.fab_export.specs.LevelsText.{level_lines}
use Rattle.fab_export.specs.Policies.{named_level}
use Rattle.fab_export.specs.SourceLevels.{is_set}
use Rattle.fab_export.proofs.PartPuts.{chosen_more, chosen_less, all_chosen}
use Rattle.fab_export.proofs.levels.push_used_levels.Goals as goal
use Rattle.fab_export.proofs.levels.push_used_levels.Goals.{then-used-from+in_ok-push_named_level, else-used-from}

pub loop-level-preserved : goal.loop-level-preserved
loop-level-preserved c = elim c.if-used-from.branch [
  | then-used-from+in_ok-push_named_level w ↦
      ap (λ (v : Vec _ _). v.items) w.text-is
      ∙ chosen_more (is_set c.args.used.now) (λ (level : ℕ). level_lines (named_level level)) c.loop-level.level c.args.text.now.items c.loop-level.text.items c.loop-level.invariant
      (ap (is_set c.args.used.now) (sym c.from.ensures) ∙ w.if-used-from.true) w.push_named_level.new.text.items w.in_ok-push_named_level.ensures
  | else-used-from w ↦
      ap (λ (v : Vec _ _). v.items) w.text-is
      ∙ chosen_less (is_set c.args.used.now) (λ (level : ℕ). level_lines (named_level level)) c.loop-level.level c.args.text.now.items c.loop-level.text.items c.loop-level.invariant
      (ap (is_set c.args.used.now) (sym c.from.ensures) ∙ w.if-used-from.false)
]

pub returns : goal.returns
returns c =
    all_chosen level_lines named_level (is_set c.args.used.now) c.loop-level.level 16 c.args.text.now.items c.loop-level.text.items
    (omega (arith, c.loop-level-test.false, c.loop-level.auto.level-end)) c.loop-level.invariant
