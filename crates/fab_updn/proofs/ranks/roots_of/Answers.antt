use Rattle.std.proofs.Common.{◌≡◌, ◌<◌, ℕ, List, length, subst, arith, None, Some}
use Rattle.fab_model.specs.declared.rows.SwitchId.{SwitchId}
use Rattle.fab_updn.proofs.Nearest.{IsNearestOf, some_there}
use Rattle.fab_tables.proofs.Joined.Search.{none_found, some_found}
use Rattle.fab_updn.proofs.Roots.{AreRootsBelow, has_root, some_member, has_centre, are_roots}
use Rattle.fab_updn.proofs.ranks.roots_of.Goals as goal
use Rattle.fab_updn.proofs.ranks.roots_of.Goals.{then-is_none+in_ok-order+in_ok-push, else-is_none}

pub index-requires : goal.index-requires
index-requires c =
    let t = c.args.fabric.now in
    let good = c.switches-index-end.ensures.kept.rows in
    let index = c.loop-index.index in
    let roots = c.loop-index.roots.items in
    let low : index < length t.switches = omega (arith, c.switches-index-end.ensures.count) in
    let missing : c.nearest.result ≡ None = none_found c.nearest.result c.is_none.result c.is_none.ensures c.if-is_none.true in
    let none : IsNearestOf c.args.hops.now index roots None = subst (λ (xs : List SwitchId). IsNearestOf c.args.hops.now index xs None) c.deref.ensures.value (subst (λ o. IsNearestOf c.args.hops.now index c.deref.result.now o) missing c.nearest.ensures) in
    omega (arith, c.in_ok-order.order.ok.0, some_member t good c.args.hops.now c.requires.hops c.args.named.now index roots low c.loop-index.invariant none c.in_ok-order.order.items (c.in_ok-order.ensures t good c.requires.hops))

pub loop-index-preserved : goal.loop-index-preserved
loop-index-preserved c =
    let t = c.args.fabric.now in
    let good = c.switches-index-end.ensures.kept.rows in
    let index = c.loop-index.index in
    let roots = c.loop-index.roots.items in
    let low : index < length t.switches = omega (arith, c.switches-index-end.ensures.count) in
    let told : IsNearestOf c.args.hops.now index roots c.nearest.result = subst (λ (xs : List SwitchId). IsNearestOf c.args.hops.now index xs c.nearest.result) c.deref.ensures.value c.nearest.ensures in
    elim c.if-is_none.branch [
      | then-is_none+in_ok-order+in_ok-push w ↦
          (let missing : c.nearest.result ≡ None = none_found c.nearest.result c.is_none.result c.is_none.ensures w.if-is_none.true in
          let none : IsNearestOf c.args.hops.now index roots None = subst (λ o. IsNearestOf c.args.hops.now index roots o) missing told in
          rw (w.roots-is, w.in_ok-push.ensures.items) (has_centre t good c.args.hops.now c.requires.hops c.args.named.now index roots low c.loop-index.invariant none w.in_ok-order.order.items (w.in_ok-order.ensures t good c.requires.hops) w.index.result.now w.index.ensures))
      | else-is_none w ↦
          (let there : (n : ℕ) × (c.nearest.result ≡ Some n) = some_there c.nearest.result (some_found c.nearest.result c.is_none.result c.is_none.ensures w.if-is_none.false) in
          let has = subst (λ o. IsNearestOf c.args.hops.now index roots o) there.1 told in
          rw w.roots-is (has_root t good c.args.hops.now c.requires.hops c.args.named.now index roots low c.loop-index.invariant there.0 has.holds))
    ]

pub returns : goal.returns
returns c =
    let whole : c.loop-index.index ≡ length c.args.fabric.now.switches = omega (arith, c.switches-index-end.ensures.count) in
    are_roots c.args.fabric.now c.switches-index-end.ensures.kept.rows c.args.hops.now c.requires.hops c.args.named.now c.loop-index.roots.items
    (subst (λ n. AreRootsBelow c.args.fabric.now c.args.named.now n c.loop-index.roots.items) whole c.loop-index.invariant)
