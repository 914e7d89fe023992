use Rattle.std.proofs.Common.{◌≡◌, ◌-◌, ◌<◌, length, Some, ◌∙◌, refl, sym, ap, arith}
use Rattle.std.specs.Prelude.{slice_index_or}
use Rattle.fab_rings.proofs.Searching.Joining.{one_more_gone}
use Rattle.fab_rings.proofs.strong_components.join_behind.Goals as goal

pub loop-group-preserved : goal.loop-group-preserved
loop-group-preserved c =
    let groups = c.loop-group.groups in
    let last = c.in-Some.group.now in
    let before = c.loop-group.invariant in
    let same : slice_index_or c.deref.result.now (length c.deref.result.now - 1) last ≡ slice_index_or groups.items (groups.len - 1) last = rw (c.deref.ensures.len, c.deref.ensures.value) (refl) in
    let some : 0 < groups.len = omega (arith, c.in-Some.ensures.item.3.0, c.deref.ensures.len) in
    let r_is : c.pop.result ≡ Some last = c.pop.ensures.value last some ∙ ap (λ g. Some g) (sym (c.in-Some.ensures.item.1 ∙ same)) in
    one_more_gone c.args.groups.now.items groups.items c.pop.new.self.items before.0 c.pop.result last c.args.place r_is c.pop.ensures.items c.if-group-place.false before.1 before.2
