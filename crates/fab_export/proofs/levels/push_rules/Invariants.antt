use Rattle.std.proofs.Common.{◌≡◌, ◌++◌, ℕ, [], cond}
use Rattle.std.specs.Prelude.{flat_map}
use Rattle.std.specs.List.{range_with_len}
use Rattle.fab_dump.specs.Writing.{lines_text}
use Rattle.fab_export.specs.LevelsText.{rule_lines}
use Rattle.fab_export.specs.Policies.{level_rule}
use Rattle.fab_export.specs.SourceLevels.{row_has}
use Rattle.fab_export.proofs.levels.push_rules.Given as goal

abbrev pub invariant-loop-level : goal.invariant-loop-level
invariant-loop-level l =
    l.text.items ≡ l.initial.text.items ++ lines_text (flat_map (λ (level : ℕ). cond (row_has l.row level) (rule_lines (level_rule l.class level)) []) (range_with_len 0 l.level))
