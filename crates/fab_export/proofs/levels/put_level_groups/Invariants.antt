use Rattle.std.proofs.Common.{ℕ, [], cond, Ok}
use Rattle.std.specs.Prelude.{flat_map}
use Rattle.std.specs.List.{range_with_len}
use Rattle.fab_dump.specs.Writing.{PutsText, lines_text}
use Rattle.fab_export.specs.LevelsText.{group_lines}
use Rattle.fab_export.specs.SourceLevels.{row_has, row_group}
use Rattle.fab_export.proofs.levels.put_level_groups.Given as goal

abbrev pub invariant-loop-level : goal.invariant-loop-level
invariant-loop-level g l =
    PutsText (lines_text (flat_map (λ (level : ℕ). cond (row_has l.row level) (group_lines (row_group l.fabric l.class l.row level)) []) (range_with_len 0 l.level))) (g.S.Sink.told l.initial.sink) (g.S.Sink.told l.sink) (g.S.Sink.faults l.initial.sink) (g.S.Sink.faults l.sink) (Ok tt)
