use Rattle.std.proofs.Common.{◌≡◌, length, take, ℕ, ◌<◌, get_or, None, IfSome}
use Rattle.fab_text.specs.Fields.{all_read}
use Rattle.fab_dump.specs.FieldsLeft.{prepended}
use Rattle.fab_dump.specs.Lines.{level_field}
use Rattle.fab_dump.proofs.rows.levels_left.Given as goal

abbrev pub invariant-loop-place : goal.invariant-loop-place
invariant-loop-place l = record {
  long : length l.levels ≡ 64;
  read : prepended (take l.place l.levels) (all_read level_field l.fields) ≡ all_read level_field l.fn.fields;
  below : (k : ℕ) → k < l.place → IfSome (get_or l.levels k None) (λ n. n < 16);
}
