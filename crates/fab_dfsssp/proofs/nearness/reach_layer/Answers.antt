use Rattle.std.proofs.Common.{◌+◌, ◌∙◌, length, drop, slice_index_or, subst}
use Rattle.std.proofs.lemmas.List.{drop_more, drop_all}
use Rattle.fab_rings.specs.Nearness.{IsReaching, ReachesTails}
use Rattle.fab_rings.proofs.Returning.ReachingLayers.{reaches_first, next_low}
use Rattle.fab_dfsssp.specs.CountedEdges.{list_at}
use Rattle.fab_dfsssp.proofs.Around.{by_predecessors, tails_low}
use Rattle.fab_dfsssp.proofs.nearness.reach_layer.Goals as goal

pub reach_tails-requires-clause-nodes : goal.reach_tails-requires-clause-nodes
reach_tails-requires-clause-nodes c =
    rw (c.tails.ensures, c.loop-node.invariant.each) (tails_low c.args.edges.now c.requires.whole (slice_index_or c.args.layer.now c.loop-node.node-index 0))

pub loop-node-preserved : goal.loop-node-preserved
loop-node-preserved c =
    let e = c.args.edges.now in
    let x = slice_index_or c.args.layer.now c.loop-node.node-index 0 in
    let rest = drop (c.loop-node.node-index + 1) c.args.layer.now in
    let near = c.loop-node.near in
    let next = c.loop-node.next.items in
    let before = c.loop-node.invariant in
    let reaches : ReachesTails (list_at e.tails x) c.args.distance near c.reach_tails.new.near next c.reach_tails.new.next.items = rw c.tails.ensures at c.in_ok-reach_tails.ensures in
    record {
      each = reaches.each ∙ before.each;
      reaching = λ g last lists h. reaches_first g last near rest next c.args.distance x
          (subst (λ r. IsReaching g last near r next c.args.distance) (drop_more c.args.layer.now c.loop-node.node-index 0 c.loop-node-test.true) (before.reaching g last lists h))
          c.reach_tails.new.near c.reach_tails.new.next.items
          (by_predecessors g e c.requires.whole lists x c.args.distance near c.reach_tails.new.near next c.reach_tails.new.next.items reaches);
      nodes = next_low (length e.heads) c.args.distance (list_at e.tails x) near c.reach_tails.new.near next c.reach_tails.new.next.items reaches (reaches.each ∙ before.each) before.nodes;
      fewer = reaches.fewer ∙ before.fewer;
    }

pub returns-clause-after : goal.returns-clause-after
returns-clause-after c = λ g last lists h.
    subst (λ r. IsReaching g last c.loop-node.near r c.loop-node.next.items c.args.distance) (drop_all c.loop-node.node-index c.args.layer.now c.loop-node-test.false) (c.loop-node.invariant.reaching g last lists h)
