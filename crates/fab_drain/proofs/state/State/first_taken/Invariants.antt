-- No packet stands before.
use Rattle.std.proofs.Common.{◌≡◌, ◌-◌, ◌<◌, ℕ, length, None, slice_index_or}
use Rattle.fab_drain.proofs.state.State.first_taken.Given as goal

abbrev pub invariant-loop-self : goal.invariant-loop-self
invariant-loop-self l = (k : ℕ) → k < l.number → slice_index_or l.self-inside.cells.items k None ≡ None

abbrev pub decreases-loop-self : goal.decreases-loop-self
decreases-loop-self l = length l.self-inside.cells.items - l.number
