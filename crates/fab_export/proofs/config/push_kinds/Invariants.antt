use Rattle.std.proofs.Common.{◌≡◌, ◌++◌, map, take}
use Rattle.std.specs.Prelude.{flat_map}
use Rattle.fab_dump.specs.Writing.{lines_text}
use Rattle.fab_export.specs.ConfigText.{kind_lines}
use Rattle.fab_export.proofs.config.push_kinds.Given as goal

abbrev pub invariant-loop-kind : goal.invariant-loop-kind
invariant-loop-kind l = l.text.items ≡ l.initial.text.items ++ lines_text (flat_map (kind_lines l.count l.lanes) (map (λ kind. kind.now) (take l.kind-index l.kinds)))
