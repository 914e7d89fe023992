-- The groups so far that are gone begin after the place.
use Rattle.std.proofs.Common.{◌≡◌, ◌<◌, ◌++◌, List, length}
use Rattle.std.specs.Prelude.{Contains}
use Rattle.fab_rings.specs.declared.strong_components.Group.{Group}
use Rattle.fab_rings.proofs.strong_components.join_behind.Given as goal

abbrev pub invariant-loop-group : goal.invariant-loop-group
invariant-loop-group l = (rest : List Group) × (l.initial.groups.items ≡ l.groups.items ++ rest) × ((x : Group) → Contains rest x → l.place < x.first)

abbrev pub decreases-loop-group : goal.decreases-loop-group
decreases-loop-group l = length l.groups.items
