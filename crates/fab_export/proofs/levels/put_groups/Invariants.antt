use Rattle.std.proofs.Common.{ℕ, Ok}
use Rattle.std.specs.Prelude.{flat_map, slice_index}
use Rattle.std.specs.List.{range_with_len}
use Rattle.fab_dump.specs.Writing.{PutsText, lines_text}
use Rattle.fab_export.specs.LevelsText.{group_lines}
use Rattle.fab_export.specs.Policies.{class_groups}
use Rattle.fab_export.proofs.levels.put_groups.Given as goal

abbrev pub invariant-loop-class : goal.invariant-loop-class
invariant-loop-class g l =
    PutsText (lines_text (flat_map (λ (class : ℕ). flat_map group_lines (class_groups l.reached.fabric l.reached.entries l.lanes (class, slice_index l.classes.least class))) (range_with_len 0 l.class))) (g.S.Sink.told l.initial.sink) (g.S.Sink.told l.sink) (g.S.Sink.faults l.initial.sink) (g.S.Sink.faults l.sink) (Ok tt)
