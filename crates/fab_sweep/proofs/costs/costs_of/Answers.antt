use Rattle.std.proofs.Common.{◌≡◌, ℕ, get_or, sym, ap, ◌∙◌, arith}
use Rattle.std.specs.Prelude.{sum_by}
use Rattle.std.proofs.lemmas.List.Sums.{sum_by_more}
use Rattle.fab_model.specs.Topology.{lids_of}
use Rattle.fab_model.proofs.LidsInUse.{as_many, number_at, all_lids}
use Rattle.fab_model.proofs.Order.{lids_are_counted}
use Rattle.fab_sweep.specs.Sweeps.{is_lost, is_changed, is_moved, count_to}
use Rattle.fab_sweep.proofs.costs.costs_of.Goals as goal

pub overflow_add-lost : goal.overflow_add-lost
overflow_add-lost c = omega (
  arith,
  c.loop-lid.invariant.few_lost,
  c.costs_to-more.ensures.few_lost,
  c.loop-lid-test.true,
  as_many c.lids_in_use-lid-items.result.now (lids_of c.args.fabric.now) c.lids_in_use-lid-items.ensures.lids,
  lids_are_counted c.args.fabric.now,
  c.lids_in_use-lid-items.ensures.kept.rows.lid_count,
)

pub overflow_add-changed : goal.overflow_add-changed
overflow_add-changed c = omega (
  arith,
  c.loop-lid.invariant.few_changed,
  c.costs_to-more.ensures.few_changed,
  c.loop-lid-test.true,
  as_many c.lids_in_use-lid-items.result.now (lids_of c.args.fabric.now) c.lids_in_use-lid-items.ensures.lids,
  lids_are_counted c.args.fabric.now,
  c.lids_in_use-lid-items.ensures.kept.rows.lid_count,
)

pub overflow_add-moved : goal.overflow_add-moved
overflow_add-moved c = omega (
  arith,
  c.loop-lid.invariant.few_moved,
  c.costs_to-more.ensures.few_moved,
  c.loop-lid-test.true,
  as_many c.lids_in_use-lid-items.result.now (lids_of c.args.fabric.now) c.lids_in_use-lid-items.ensures.lids,
  lids_are_counted c.args.fabric.now,
  c.lids_in_use-lid-items.ensures.kept.rows.lid_count,
)

pub loop-lid-preserved : goal.loop-lid-preserved
loop-lid-preserved c =
    let t = c.args.fabric.now in
    let lids = c.lids_in_use-lid-items.result.now in
    let k = c.loop-lid.lid-index in
    let so_far = c.loop-lid.invariant in
    let told = c.costs_to-more.ensures in
    let changed = λ (lid : ℕ). count_to t (is_changed c.args.plan.now.tables c.args.repaired.now.tables) lid in
    let low = as_many lids (lids_of t) c.lids_in_use-lid-items.ensures.lids in
    record {
      lost = λ was is a b.
          let f = λ (lid : ℕ). count_to t (is_lost t was is) lid in
          let step : c.costs_to-more.result.lost ≡ f (get_or (lids_of t) k 0) = told.lost was is a b ∙ ap f (sym (number_at lids (lids_of t) c.lids_in_use-lid-items.ensures.lids k _ 0 c.loop-lid-test.true)) in
          omega (arith, so_far.lost was is a b, step, sum_by_more f (lids_of t) k 0 (omega (arith, low, c.loop-lid-test.true)));
      changed =
          let step : c.costs_to-more.result.changed ≡ changed (get_or (lids_of t) k 0) = told.changed ∙ ap changed (sym (number_at lids (lids_of t) c.lids_in_use-lid-items.ensures.lids k _ 0 c.loop-lid-test.true)) in
          omega (arith, so_far.changed, step, sum_by_more changed (lids_of t) k 0 (omega (arith, low, c.loop-lid-test.true)));
      moved = λ is b.
          let f = λ (lid : ℕ). count_to t (is_moved t is c.args.plan.now.lanes c.args.repaired.now.lanes) lid in
          let step : c.costs_to-more.result.moved ≡ f (get_or (lids_of t) k 0) = told.moved is b ∙ ap f (sym (number_at lids (lids_of t) c.lids_in_use-lid-items.ensures.lids k _ 0 c.loop-lid-test.true)) in
          omega (arith, so_far.moved is b, step, sum_by_more f (lids_of t) k 0 (omega (arith, low, c.loop-lid-test.true)));
      few_lost = omega (arith, so_far.few_lost, told.few_lost);
      few_changed = omega (arith, so_far.few_changed, told.few_changed);
      few_moved = omega (arith, so_far.few_moved, told.few_moved);
    }

pub returns-clause-lost : goal.returns-clause-lost
returns-clause-lost c = λ was is a b.
    c.loop-lid.invariant.lost was is a b
    ∙ ap (λ xs. sum_by (λ lid. count_to c.args.fabric.now (is_lost c.args.fabric.now was is) lid) xs) (all_lids c.lids_in_use-lid-items.result.now (lids_of c.args.fabric.now) c.lids_in_use-lid-items.ensures.lids c.loop-lid.lid-index c.loop-lid-test.false)

pub returns-clause-moved : goal.returns-clause-moved
returns-clause-moved c = λ is b.
    c.loop-lid.invariant.moved is b
    ∙ ap (λ xs. sum_by (λ lid. count_to c.args.fabric.now (is_moved c.args.fabric.now is c.args.plan.now.lanes c.args.repaired.now.lanes) lid) xs)
    (all_lids c.lids_in_use-lid-items.result.now (lids_of c.args.fabric.now) c.lids_in_use-lid-items.ensures.lids c.loop-lid.lid-index c.loop-lid-test.false)
