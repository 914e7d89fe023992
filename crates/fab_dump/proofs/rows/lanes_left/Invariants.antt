use Rattle.std.proofs.Common.{◌≡◌, ℕ, ◌<◌, length, take, get_or}
use Rattle.fab_text.specs.Fields.{all_read, dec_up_to}
use Rattle.fab_dump.specs.FieldsLeft.{prepended}
use Rattle.fab_dump.proofs.rows.lanes_left.Given as goal

abbrev pub invariant-loop-level : goal.invariant-loop-level
invariant-loop-level l = record {
  long : length l.lanes ≡ 16;
  read : prepended (take l.level l.lanes) (all_read (dec_up_to 15) l.fields) ≡ all_read (dec_up_to 15) l.fn.fields;
  below : (k : ℕ) → k < l.level → get_or l.lanes k 0 < 16;
}
