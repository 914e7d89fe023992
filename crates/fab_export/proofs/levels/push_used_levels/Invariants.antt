use Rattle.std.proofs.Common.{◌≡◌, ◌++◌, ℕ, [], cond}
use Rattle.std.specs.Prelude.{flat_map}
use Rattle.std.specs.List.{range_with_len}
use Rattle.fab_dump.specs.Writing.{lines_text}
use Rattle.fab_export.specs.LevelsText.{level_lines}
use Rattle.fab_export.specs.Policies.{named_level}
use Rattle.fab_export.specs.SourceLevels.{is_set}
use Rattle.fab_export.proofs.levels.push_used_levels.Given as goal

abbrev pub invariant-loop-level : goal.invariant-loop-level
invariant-loop-level l =
    l.text.items ≡ l.initial.text.items ++ lines_text (flat_map (λ (level : ℕ). cond (is_set l.used level) (level_lines (named_level level)) []) (range_with_len 0 l.level))
