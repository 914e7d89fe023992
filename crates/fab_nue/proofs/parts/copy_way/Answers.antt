use Rattle.std.proofs.Common.{◌≡◌, ◌≢◌, ◌∙◌, ◌<◌, ◌⊎◌, inl, inr, ℕ, List, Option, Some, length, length-set, sym, subst, ap, arith}
use Rattle.fab_tables.specs.Route.{tip}
use Rattle.fab_tables.specs.Trees.{next}
use Rattle.fab_tables.specs.TreeWalks.{walk_of}
use Rattle.fab_sssp.proofs.Raising.TreePassing.{tip_read}
use Rattle.fab_sssp.proofs.Walks.LeastChannels.{tip_within}
use Rattle.fab_nue.specs.Search.{Passes}
use Rattle.fab_nue.proofs.Searching.Adding.{own_read, none_read}
use Rattle.fab_nue.proofs.Searching.Passing.{passes_here, passes_later, passes_before, passes_none, shorter_on}
use Rattle.fab_nue.proofs.Keeping.Parts.{WayCopied, way_copied}
use Rattle.fab_nue.proofs.parts.copy_way.Goals as goal

pub loop-channel-smaller : goal.loop-channel-smaller
loop-channel-smaller c =
    let t = c.args.fabric.now in
    let tree = c.args.whole.now in
    let at = c.loop-channel.at.0 in
    let d = c.in-Some.channel.0 in
    let own : next tree at ≡ Some d = own_read tree at c.next.result c.in-Some.channel c.next.ensures c.in-Some.is in
    subst (λ s. length (walk_of t tree s) < length (walk_of t tree at)) (tip_read t d c.tip-at.result c.tip-at.ensures) (shorter_on t tree c.requires.whole at at d own)

pub loop-channel-preserved : goal.loop-channel-preserved
loop-channel-preserved c =
    let t = c.args.fabric.now in
    let tree = c.args.whole.now in
    let at = c.loop-channel.at.0 in
    let d = c.in-Some.channel.0 in
    let own : next tree at ≡ Some d = own_read tree at c.next.result c.in-Some.channel c.next.ensures c.in-Some.is in
    let read : tip t d ≡ c.tip-at.result.0 = tip_read t d c.tip-at.result c.tip-at.ensures in
    let low : at < length c.loop-channel.part = omega (arith, c.loop-channel.invariant.low, c.loop-channel.invariant.each_switch, c.requires.part) in
    let was = c.loop-channel.invariant in
    let new = way_copied t tree c.args.from.0 at d c.tip-at.result.0 c.args.part.now c.loop-channel.part c.requires.whole own read low (record { on = was.on; taken = was.taken; kept = was.kept; only = was.only }) in
    rw c.set.ensures (record {
      low = tip_within t c.requires.fabric.rows d c.tip-at.result c.tip-at.ensures;
      each_switch = length-set c.loop-channel.part at (Some d) ∙ was.each_switch;
      on = new.on;
      taken = new.taken;
      kept = new.kept;
      only = new.only;
    })
