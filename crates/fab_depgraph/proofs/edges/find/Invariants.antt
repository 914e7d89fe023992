use Rattle.std.proofs.Common.{length}
use Rattle.slab.specs.Slab.{slab_len}
use Rattle.fab_depgraph.specs.Edges.{linked_row}
use Rattle.fab_depgraph.proofs.Linking.Chains.{IsSeeking}
use Rattle.fab_depgraph.proofs.edges.find.Given as goal

abbrev pub invariant-loop-next : goal.invariant-loop-next
invariant-loop-next l = IsSeeking l.edges.slots (slab_len l.edges) l.second.0 l.fn.newest l.next

abbrev pub decreases-loop-next : goal.decreases-loop-next
decreases-loop-next l = length (linked_row (slab_len l.edges) l.edges.slots l.next)
