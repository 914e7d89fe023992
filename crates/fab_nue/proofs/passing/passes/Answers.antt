use Rattle.std.proofs.Common.{◌≡◌, ◌≢◌, ◌<◌, ◌∙◌, Some, length, sym, subst}
use Rattle.std.proofs.lemmas.Bool.{eqb-false, not-true}
use Rattle.fab_tables.specs.Route.{tip}
use Rattle.fab_tables.specs.Trees.{next}
use Rattle.fab_tables.specs.TreeWalks.{walk_of}
use Rattle.fab_sssp.proofs.Raising.TreePassing.{tip_read}
use Rattle.fab_sssp.proofs.Walks.LeastChannels.{tip_within}
use Rattle.fab_nue.specs.Search.{Passes}
use Rattle.fab_nue.proofs.Searching.Adding.{own_read}
use Rattle.fab_nue.proofs.Searching.Passing.{passes_later, passes_before, shorter_on}
use Rattle.fab_nue.proofs.passing.passes.Goals as goal

pub loop-other-smaller : goal.loop-other-smaller
loop-other-smaller c =
    let t = c.args.fabric.now in
    let tree = c.args.tree.now in
    let at = c.loop-other.at.0 in
    let d = c.in-Some.channel.0 in
    let own : next tree at ≡ Some d = own_read tree at c.next.result c.in-Some.channel c.next.ensures c.in-Some.is in
    subst (λ s. length (walk_of t tree s) < length (walk_of t tree at)) (tip_read t d c.tip-at.result c.tip-at.ensures) (shorter_on t tree c.requires.tree at c.args.other.0 d own)

pub loop-other-preserved : goal.loop-other-preserved
loop-other-preserved c =
    let t = c.args.fabric.now in
    let tree = c.args.tree.now in
    let at = c.loop-other.at.0 in
    let other = c.args.other.0 in
    let d = c.in-Some.channel.0 in
    let own : next tree at ≡ Some d = own_read tree at c.next.result c.in-Some.channel c.next.ensures c.in-Some.is in
    let read : tip t d ≡ c.tip-at.result.0 = tip_read t d c.tip-at.result c.tip-at.ensures in
    let apart : at ≢ other = eqb-false at other (not-true _ (sym c.ne.ensures ∙ c.loop-other-test.true)) in
    record {
      low = tip_within t c.requires.fabric.rows d c.tip-at.result c.tip-at.ensures;
      on = λ has. subst (λ s. Passes t tree s other) read (passes_before t tree c.requires.tree at other d own apart (c.loop-other.invariant.on has));
      back = λ has. c.loop-other.invariant.back (passes_later t tree c.requires.tree at other d own (subst (λ s. Passes t tree s other) (sym read) has));
    }
