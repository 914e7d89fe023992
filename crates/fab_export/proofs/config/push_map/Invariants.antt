use Rattle.std.proofs.Common.{◌≡◌, ◌++◌, take}
use Rattle.fab_export.specs.ConfigText.{map_text}
use Rattle.fab_export.proofs.config.push_map.Given as goal

abbrev pub invariant-loop-place : goal.invariant-loop-place
invariant-loop-place l = l.text.items ≡ l.initial.text.items ++ map_text (take l.place l.lanes)
