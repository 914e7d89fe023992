-- The levels of a graph, or its first ring.
use Rattle.fab_graph.specs.Walks.{IsEdge}
use Rattle.fab_graph.specs.Rings.{IsFirstRing}
use Rattle.fab_rings.specs.declared.numbering.Numbering.{Numbering}
use Rattle.fab_rings.specs.declared.numbering.Numbering.TheVariants.{Levels, Ring}
use Rattle.fab_rings.specs.EdgeList.{EdgeList, AreNodeLevels}

-- a graph without a closed walk has levels, and another a first ring
abbrev pub IsNumbering : EdgeList → Numbering → Type 0
IsNumbering g (Levels levels) = AreNodeLevels g levels.items
IsNumbering g (Ring nodes) = IsFirstRing (IsEdge g.edges) nodes
