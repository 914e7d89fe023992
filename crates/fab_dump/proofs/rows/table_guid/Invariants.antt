use Rattle.std.proofs.Common.{◌≡◌, length}
use Rattle.std.specs.Prelude.{codes}
use Rattle.fab_text.specs.Fields.{hex, read_only, after_word}
use Rattle.fab_dump.specs.Lines.{table_guid}
use Rattle.fab_dump.proofs.rows.table_guid.Given as goal

abbrev pub invariant-loop-field : goal.invariant-loop-field
invariant-loop-field l = read_only (hex 16) (after_word (codes "guid") l.fields) ≡ table_guid l.line

abbrev pub decreases-loop-field : goal.decreases-loop-field
decreases-loop-field l = length l.fields
