use Rattle.std.proofs.Common.{◌≡◌, ◌++◌}
use Rattle.fab_export.specs.ConfigText.{weights_text}
use Rattle.fab_export.proofs.config.push_weights.Given as goal

abbrev pub invariant-loop-lane : goal.invariant-loop-lane
invariant-loop-lane l = l.text.items ≡ l.initial.text.items ++ weights_text l.lane
