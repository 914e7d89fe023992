use Rattle.std.proofs.Common.{◌≡◌, List, length, map, sym, ◌∙◌, ap, subst, refl, arith}
use Rattle.std.proofs.lemmas.Result.{IfOk-weaker}
use Rattle.fab_hops.proofs.Ranked.{Ranked}
use Rattle.fab_updn.specs.Found.{IsKeyOrder}
use Rattle.fab_updn.proofs.KeyOrders.{AreRanked, one_ranked_more, key_order}
use Rattle.fab_updn.proofs.keys.by_key.Goals as goal

pub loop-index-preserved : goal.loop-index-preserved
loop-index-preserved c = rw c.in_ok-push.ensures.items (one_ranked_more c.args.ranks.now c.loop-index.index c.loop-index.ranked.items c.loop-index.invariant _ (record { 0 = c.loop-index.index }) refl refl)

pub returns : goal.returns
returns c =
    let ranks = c.args.ranks.now in
    let sorted : List Ranked = c.sort_unstable.new.self.items in
    let whole : c.loop-index.index ≡ length ranks = omega (arith, c.requires, c.switches-index-end.ensures.count) in
    IfOk-weaker c.switches_of.result (λ order. order.items ≡ map (λ (pair : Ranked). pair.1) c.deref.result.now) (λ order. IsKeyOrder ranks order.items)
    (λ order same. subst (λ xs. IsKeyOrder ranks xs) (sym (same ∙ ap (λ (xs : List Ranked). map (λ (pair : Ranked). pair.1) xs) c.deref.ensures.value))
    (key_order ranks c.loop-index.ranked.items sorted (subst (λ n. AreRanked ranks n c.loop-index.ranked.items) whole c.loop-index.invariant) c.sort_unstable.ensures.permutation c.sort_unstable.ensures.sorted))
    c.switches_of.ensures
