use Rattle.std.proofs.Common.{◌≡◌, ◌∙◌, ◌<◌, ℕ, length, sym, subst, arith, Some, None, Option}
use Rattle.fab_tables.specs.Route.{tip}
use Rattle.fab_tables.specs.Trees.{next}
use Rattle.fab_tables.specs.TreeWalks.{walk_of}
use Rattle.fab_sssp.proofs.Raising.TreePassing.{tip_read}
use Rattle.fab_sssp.proofs.Walks.LeastChannels.{tip_within}
use Rattle.fab_nue.specs.OldRoutes.{KeepsLaneFrom}
use Rattle.fab_nue.proofs.Searching.Adding.{own_read, none_read}
use Rattle.fab_nue.proofs.Searching.Passing.{shorter_on}
use Rattle.fab_nue.proofs.Keeping.OldLevels.{keeps_later, keeps_before, keeps_end, keeps_here}
use Rattle.fab_nue.proofs.old_levels.keeps_lane.Goals as goal

pub loop-at-smaller : goal.loop-at-smaller
loop-at-smaller c =
    let t = c.args.fabric.now in
    let tree = c.args.tree.now in
    let at = c.loop-at.at.0 in
    let d = c.in-Some.channel.0 in
    let own : next tree at ≡ Some d = own_read tree at c.next.result c.in-Some.channel c.next.ensures c.in-Some.is in
    subst (λ s. length (walk_of t tree s) < length (walk_of t tree at)) (tip_read t d c.tip-at.result c.tip-at.ensures) (shorter_on t tree c.requires.tree at at d own)

pub loop-at-preserved : goal.loop-at-preserved
loop-at-preserved c =
    let t = c.args.fabric.now in
    let tree = c.args.tree.now in
    let old = c.args.old.now in
    let level = c.args.level in
    let at = c.loop-at.at.0 in
    let d = c.in-Some.channel.0 in
    let own : next tree at ≡ Some d = own_read tree at c.next.result c.in-Some.channel c.next.ensures c.in-Some.is in
    let read : tip t d ≡ c.tip-at.result.0 = tip_read t d c.tip-at.result c.tip-at.ensures in
    record {
      low = tip_within t c.requires.fabric.rows d c.tip-at.result c.tip-at.ensures;
      on = λ keeps. subst (λ s. KeepsLaneFrom t old tree level s) read (keeps_later t old tree level c.requires.tree at d own (c.loop-at.invariant.on keeps));
      back = λ keeps. c.loop-at.invariant.back (keeps_before t old tree level c.requires.tree at d own (sym c.old_lane.ensures ∙ c.loop-at-test.true) (subst (λ s. KeepsLaneFrom t old tree level s) (sym read) keeps));
    }

pub returns-in-None : goal.returns-in-None
returns-in-None c =
    let t = c.args.fabric.now in
    let tree = c.args.tree.now in
    let at = c.loop-at.at.0 in
    c.loop-at.invariant.back (keeps_end t c.args.old.now tree c.args.level c.requires.tree at (none_read tree at c.next.result c.next.ensures c.in-None.is) (sym c.old_lane.ensures ∙ c.loop-at-test.true))
