-- No search is under way, and the switches so far have a number.
use Rattle.std.proofs.Common.{◌<◌, ℕ}
use Rattle.std.specs.Prelude.{IsSome}
use Rattle.fab_tables.specs.Components.{component_of}
use Rattle.fab_tables.specs.Searching.{HasSearched}
use Rattle.fab_tables.proofs.components.number_components.Given as goal

abbrev pub invariant-loop-start : goal.invariant-loop-start
invariant-loop-start l = HasSearched l.fabric l.numbers.items × ((s : ℕ) → s < l.start → IsSome (component_of l.numbers.items s))
