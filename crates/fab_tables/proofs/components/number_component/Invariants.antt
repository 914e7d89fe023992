-- Each turn takes one pending switch, and each switch that is made pending gets its number.
use Rattle.std.proofs.Common.{◌≡◌, ◌+◌, Some, length, count_by, is_none}
use Rattle.fab_tables.specs.Components.{component_of}
use Rattle.fab_tables.specs.Searching.{IsSearching, KeepsNumbers}
use Rattle.fab_tables.proofs.components.number_component.Given as goal

abbrev pub invariant-loop-switch : goal.invariant-loop-switch
invariant-loop-switch l =
    IsSearching l.fabric l.start.0 l.numbers l.pending.items × KeepsNumbers l.fn.numbers l.numbers × (component_of l.numbers l.start.0 ≡ Some l.start.0)

abbrev pub decreases-loop-switch : goal.decreases-loop-switch
decreases-loop-switch l = count_by is_none l.numbers + length l.pending.items
