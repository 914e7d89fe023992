use Rattle.std.proofs.Common.{◌≡◌, ℕ, ◌+◌, ◌-◌, length}
use Rattle.fab_depgraph.proofs.Searching.Going.{IsGoing}
use Rattle.fab_depgraph.proofs.search.Search.meets.Given as goal

abbrev pub invariant-loop-channel : goal.invariant-loop-channel
invariant-loop-channel g l = (taken : ℕ) × (l.steps ≡ l.initial.steps + taken) × IsGoing l.edges.rows l.order l.fn.from.0 l.last.0 l.self l.next taken

abbrev pub decreases-loop-channel : goal.decreases-loop-channel
decreases-loop-channel g l = length l.order - l.next
