use Rattle.std.proofs.Common.{subst}
use Rattle.std.specs.Prelude.{MatchOption}
use Rattle.std.proofs.lemmas.Bool.{some_since}
use Rattle.fab_graph.specs.Walks.{IsEdge, HasClosedWalk}
use Rattle.fab_rings.specs.EdgeList.{AreNodeLevels}
use Rattle.fab_rings.proofs.numbering.levels_or_ring.Goals as goal

pub unwrap-ring-requires : goal.unwrap-ring-requires
unwrap-ring-requires c =
    let g = c.args.graph.now in
    let closed : HasClosedWalk (IsEdge g.edges) = subst (λ o. MatchOption o (HasClosedWalk (IsEdge g.edges)) (λ found. AreNodeLevels g found.items)) c.in-None.is c.in_ok-levels.ensures in
    some_since c.in_ok-find_ring-in-None.field-0 _ _ c.in_ok-find_ring-in-None.ensures (λ acyclic. acyclic closed.0 closed.1)
