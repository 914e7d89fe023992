use Rattle.std.proofs.Common.{◌≡◌, ◌++◌, ◌∷◌, ℕ, take}
use Rattle.std.specs.List.{flat_map}
use Rattle.fab_dump.specs.Writing.{two}
use Rattle.fab_dump.proofs.write_blocks.push_lanes.Given as goal

abbrev pub invariant-loop-lane : goal.invariant-loop-lane
invariant-loop-lane l = l.text.items ≡ l.initial.text.items ++ flat_map (λ (lane : ℕ). 32 ∷ two lane) (take l.lane-index l.rest)
