use Rattle.std.proofs.Common.{◌≡◌, length, take}
use Rattle.fab_text.specs.Fields.{all_read, dec}
use Rattle.fab_dump.specs.FieldsLeft.{prepended}
use Rattle.fab_dump.proofs.rows.ports_left.Given as goal

abbrev pub invariant-loop-place : goal.invariant-loop-place
invariant-loop-place l = record {
  long : length l.ports ≡ 64;
  read : prepended (take l.place l.ports) (all_read (dec 3 255) l.fields) ≡ all_read (dec 3 255) l.fn.fields;
}
