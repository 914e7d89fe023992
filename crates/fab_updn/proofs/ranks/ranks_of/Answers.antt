use Rattle.std.proofs.Common.{◌+◌, sym, ◌∙◌, ap, subst, arith}
use Rattle.std.proofs.lemmas.List.{length_push}
use Rattle.fab_updn.specs.Found.{AreRoots}
use Rattle.fab_updn.specs.Ranks.{IsRank}
use Rattle.fab_updn.proofs.Roots.{numbers, some_nearest, rank_found, one_rank_more}
use Rattle.fab_updn.proofs.ranks.ranks_of.Goals as goal

pub unwrap-rank-requires : goal.unwrap-rank-requires
unwrap-rank-requires c =
    let t = c.args.fabric.now in
    let roots : AreRoots t (numbers c.args.named.now) c.deref.result.now = subst (λ xs. AreRoots t (numbers c.args.named.now) xs) (sym c.deref.ensures.value) c.in_ok-roots.ensures in
    some_nearest t c.switches-index-end.ensures.kept.rows c.args.hops.now c.requires.hops (numbers c.args.named.now) c.deref.result.now roots c.loop-index.index (omega (arith, c.switches-index-end.ensures.count)) c.nearest.result c.nearest.ensures

pub loop-index-preserved : goal.loop-index-preserved
loop-index-preserved c =
    let t = c.args.fabric.now in
    let named = numbers c.args.named.now in
    let roots : AreRoots t named c.deref.result.now = subst (λ xs. AreRoots t named xs) (sym c.deref.ensures.value) c.in_ok-roots.ensures in
    let rank : IsRank t named c.loop-index.index c.unwrap-rank.result =
    rank_found t c.switches-index-end.ensures.kept.rows c.args.hops.now c.requires.hops named c.deref.result.now roots c.loop-index.index (omega (arith, c.switches-index-end.ensures.count)) c.nearest.result c.unwrap-rank.result c.nearest.ensures c.unwrap-rank.ensures in
    let items = c.in_ok-push.ensures.items in
    record {
      whole = rw items (length_push c.loop-index.ranks.items c.unwrap-rank.result ∙ ap (λ n. n + 1) c.loop-index.invariant.whole);
      each = rw items (one_rank_more t named c.loop-index.ranks.items c.loop-index.index c.unwrap-rank.result c.loop-index.invariant.whole c.loop-index.invariant.each rank);
    }
