use Rattle.std.proofs.Common.{◌≡◌, ◌<◌, ◌∙◌, ◌+◌, ℕ, List, Some, length, sym, subst, ap, arith}
use Rattle.std.proofs.lemmas.List.Sums.{sum_by-cons}
use Rattle.fab_tables.specs.Route.{tip}
use Rattle.fab_tables.specs.Trees.{next}
use Rattle.fab_tables.specs.TreeWalks.{walk_of}
use Rattle.fab_tables.proofs.Paths.TreeWalks.{walk_of_next}
use Rattle.fab_sssp.specs.LeastWeight.{weight_along}
use Rattle.fab_sssp.specs.WeightTables.{weight_of}
use Rattle.fab_sssp.proofs.Raising.TreePassing.{tip_read}
use Rattle.fab_sssp.proofs.Raising.WeightBounds.{weight_read, weight_within}
use Rattle.fab_sssp.proofs.Walks.LeastChannels.{tip_within}
use Rattle.fab_nue.proofs.Searching.Adding.{own_read, channel_within}
use Rattle.fab_nue.proofs.Searching.Passing.{shorter_on}
use Rattle.fab_nue.proofs.Heaps.UnderWay.{way_small}
use Rattle.fab_nue.proofs.weighing.weight_of_way.Goals as goal

pub loop-next-init : goal.loop-next-init
loop-next-init c =
    let t = c.args.fabric.now in
    let tree = c.args.tree.now in
    let W : ℕ → ℕ = λ k. weight_of c.args.weights.now k in
    let read : tip t c.args.channel.0 ≡ c.tip-at.result.0 = tip_read t c.args.channel.0 c.tip-at.result c.tip-at.ensures in
    record {
      low = tip_within t c.requires.fabric.rows c.args.channel.0 c.tip-at.result c.tip-at.ensures;
      whole = ap (λ n. n + weight_along W (walk_of t tree c.tip-at.result.0)) (sym (weight_read c.args.weights.now c.args.channel.0 c.of-weight.result c.of-weight.ensures.weight))
          ∙ ap (λ s. W c.args.channel.0 + weight_along W (walk_of t tree s)) (sym read);
    }

pub of-weight-requires-in-Some : goal.of-weight-requires-in-Some
of-weight-requires-in-Some c =
    omega (arith, channel_within c.args.fabric.now c.args.tree.now c.loop-next.at.0 c.in-Some.next.0 c.requires.tree (own_read c.args.tree.now c.loop-next.at.0 c.next.result c.in-Some.next c.next.ensures c.in-Some.is), c.requires.made_for.channels)

pub overflow_add-weight : goal.overflow_add-weight
overflow_add-weight c =
    let t = c.args.fabric.now in
    let tree = c.args.tree.now in
    let W : ℕ → ℕ = λ k. weight_of c.args.weights.now k in
    let at = c.loop-next.at.0 in
    let d = c.in-Some.next.0 in
    let own : next tree at ≡ Some d = own_read tree at c.next.result c.in-Some.next c.next.ensures c.in-Some.is in
    let split : weight_along W (walk_of t tree at) ≡ W d + weight_along W (walk_of t tree (tip t d)) = ap (λ (cs : List ℕ). weight_along W cs) (walk_of_next t tree at d c.requires.tree own) ∙ sum_by-cons W d (walk_of t tree (tip t d)) in
    omega (
      arith,
      split,
      c.loop-next.invariant.whole,
      weight_read c.args.weights.now d c.of-weight-in-Some.result c.of-weight-in-Some.ensures.weight,
      way_small t W tree c.args.channel.0 (weight_within c.args.weights.now c.of-weight-in-Some.ensures.kept),
      c.requires.fabric.rows.switch_count,
    )

pub tip-at-requires-in-Some : goal.tip-at-requires-in-Some
tip-at-requires-in-Some c =
    channel_within c.args.fabric.now c.args.tree.now c.loop-next.at.0 c.in-Some.next.0 c.requires.tree (own_read c.args.tree.now c.loop-next.at.0 c.next.result c.in-Some.next c.next.ensures c.in-Some.is)

pub loop-next-smaller : goal.loop-next-smaller
loop-next-smaller c =
    let t = c.args.fabric.now in
    let tree = c.args.tree.now in
    let at = c.loop-next.at.0 in
    let d = c.in-Some.next.0 in
    let own : next tree at ≡ Some d = own_read tree at c.next.result c.in-Some.next c.next.ensures c.in-Some.is in
    subst (λ s. length (walk_of t tree s) < length (walk_of t tree at)) (tip_read t d c.tip-at-in-Some.result c.tip-at-in-Some.ensures) (shorter_on t tree c.requires.tree at 0 d own)

pub loop-next-preserved : goal.loop-next-preserved
loop-next-preserved c =
    let t = c.args.fabric.now in
    let tree = c.args.tree.now in
    let W : ℕ → ℕ = λ k. weight_of c.args.weights.now k in
    let at = c.loop-next.at.0 in
    let d = c.in-Some.next.0 in
    let own : next tree at ≡ Some d = own_read tree at c.next.result c.in-Some.next c.next.ensures c.in-Some.is in
    let read : tip t d ≡ c.tip-at-in-Some.result.0 = tip_read t d c.tip-at-in-Some.result c.tip-at-in-Some.ensures in
    let split : weight_along W (walk_of t tree at) ≡ W d + weight_along W (walk_of t tree (tip t d)) = ap (λ (cs : List ℕ). weight_along W cs) (walk_of_next t tree at d c.requires.tree own) ∙ sum_by-cons W d (walk_of t tree (tip t d)) in
    record {
      low = tip_within t c.requires.fabric.rows d c.tip-at-in-Some.result c.tip-at-in-Some.ensures;
      whole = ap (λ s. c.loop-next.weight + c.of-weight-in-Some.result + weight_along W (walk_of t tree s)) (sym read)
          ∙ omega (arith, split, weight_read c.args.weights.now d c.of-weight-in-Some.result c.of-weight-in-Some.ensures.weight)
          ∙ c.loop-next.invariant.whole;
    }
