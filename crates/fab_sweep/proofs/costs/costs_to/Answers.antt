use Rattle.std.proofs.Common.{◌≡◌, ◌<◌, length, Some, refl, sym, ◌∙◌, ap, subst, arith}
use Rattle.std.specs.Prelude.{IsSome}
use Rattle.fab_model.specs.Topology.{Topology, place_of}
use Rattle.fab_tables.proofs.Paths.FallingRoutes.{place_below}
use Rattle.fab_nue.proofs.Laying.LidPlaces.{has_place}
use Rattle.fab_sweep.specs.Sweeps.{is_lost, is_changed, is_moved, count_below}
use Rattle.fab_sweep.proofs.CostSteps.{one_more, few_more, lost_at, moved_at}
use Rattle.fab_sweep.proofs.costs.costs_to.Goals as goal

pub unwrap-requires : goal.unwrap-requires
unwrap-requires c = subst (λ o. IsSome o) (sym (c.place_of.ensures ∙ (has_place c.args.fabric.now c.args.lid.0 c.requires.in_use).1)) refl

pub is_cut_off-requires-clause-to : goal.is_cut_off-requires-clause-to
is_cut_off-requires-clause-to c =
    let at : place_of c.args.fabric.now c.args.lid.0 ≡ Some c.unwrap.result = sym c.place_of.ensures ∙ c.unwrap.ensures in
    let low : c.unwrap.result.switch.0 < length c.args.fabric.now.switches = place_below c.args.fabric.now c.requires.fabric.rows c.args.lid.0 c.unwrap.result at in
    (subst (λ (u : Topology). c.unwrap.result.switch.0 < length u.switches) (sym c.requires.before) low, omega (arith, low, c.requires.after))

pub is_moved-requires-clause-to : goal.is_moved-requires-clause-to
is_moved-requires-clause-to c =
    let at : place_of c.args.fabric.now c.args.lid.0 ≡ Some c.unwrap.result = sym c.place_of.ensures ∙ c.unwrap.ensures in
    let low : c.unwrap.result.switch.0 < length c.args.fabric.now.switches = place_below c.args.fabric.now c.requires.fabric.rows c.args.lid.0 c.unwrap.result at in
    omega (arith, low, c.requires.after)

pub loop-index-preserved : goal.loop-index-preserved
loop-index-preserved c =
    let t = c.args.fabric.now in
    let lid = c.args.lid.0 in
    let s = c.loop-index.index in
    let so_far = c.loop-index.invariant in
    let at : place_of c.args.fabric.now c.args.lid.0 ≡ Some c.unwrap.result = sym c.place_of.ensures ∙ c.unwrap.ensures in
    record {
      lost = λ was is a b. one_more (is_lost t was is) lid s c.is_cut_off.result (c.is_cut_off.ensures was is a b ∙ lost_at t was is s lid c.unwrap.result at) c.loop-index.lost c.one_if-lost.result (so_far.lost was is a b) c.one_if-lost.ensures;
      changed = one_more (is_changed c.args.plan.now.tables c.args.repaired.now.tables) lid s c.differs.result c.differs.ensures c.loop-index.changed c.one_if-changed.result so_far.changed c.one_if-changed.ensures;
      moved = λ is b. one_more (is_moved t is c.args.plan.now.lanes c.args.repaired.now.lanes) lid s c.is_moved.result
          (c.is_moved.ensures is b ∙ moved_at t is c.args.plan.now.lanes c.args.repaired.now.lanes s lid c.unwrap.result at) c.loop-index.moved c.one_if-moved.result (so_far.moved is b) c.one_if-moved.ensures;
      few_lost = few_more c.is_cut_off.result c.loop-index.lost c.one_if-lost.result s so_far.few_lost c.one_if-lost.ensures;
      few_changed = few_more c.differs.result c.loop-index.changed c.one_if-changed.result s so_far.few_changed c.one_if-changed.ensures;
      few_moved = few_more c.is_moved.result c.loop-index.moved c.one_if-moved.result s so_far.few_moved c.one_if-moved.ensures;
    }

pub returns-clause-lost : goal.returns-clause-lost
returns-clause-lost c = λ was is a b.
    let all : c.loop-index.index ≡ length c.args.fabric.now.switches = omega (arith, c.loop-index-test.false, c.switches-index-end.ensures.count) in
    c.loop-index.invariant.lost was is a b ∙ ap (λ n. count_below (is_lost c.args.fabric.now was is) c.args.lid.0 n) all
