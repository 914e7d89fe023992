use Rattle.std.proofs.Common.{◌≡◌, ℕ, get_or, sym, ap, ◌∙◌, arith}
use Rattle.std.specs.Prelude.{sum_by}
use Rattle.std.proofs.lemmas.List.Sums.{sum_by_more}
use Rattle.fab_model.specs.Topology.{lids_of}
use Rattle.fab_model.proofs.LidsInUse.{as_many, number_at}
use Rattle.fab_model.proofs.Order.{lids_are_counted}
use Rattle.fab_tables.specs.Route.{route}
use Rattle.fab_report.specs.Summary.{sources, hops_if_delivered}
use Rattle.fab_report.proofs.rows.hops_in_all.Goals as goal

pub overflow_add-hops : goal.overflow_add-hops
overflow_add-hops c = omega (
  arith,
  c.loop-lid.invariant.small,
  c.hops_to-hops.ensures.small,
  c.loop-lid-test.true,
  as_many c.lids_in_use-lid-items.result.now (lids_of c.args.fabric.now) c.lids_in_use-lid-items.ensures.lids,
  lids_are_counted c.args.fabric.now,
  c.lids_in_use-lid-items.ensures.kept.rows.lid_count,
)

pub loop-lid-preserved : goal.loop-lid-preserved
loop-lid-preserved c =
    let t = c.args.fabric.now in
    let e = c.args.tables.now in
    let lids = c.lids_in_use-lid-items.result.now in
    let k = c.loop-lid.lid-index in
    let f = λ (lid : ℕ). sum_by (λ s. hops_if_delivered (route t e s lid)) (sources t) in
    let step : c.hops_to-hops.result ≡ f (get_or (lids_of t) k 0) = c.hops_to-hops.ensures.sum ∙ ap f (sym (number_at lids (lids_of t) c.lids_in_use-lid-items.ensures.lids k _ 0 c.loop-lid-test.true)) in
    record {
      sum = omega (
        arith,
        c.loop-lid.invariant.sum,
        step,
        sum_by_more f (lids_of t) k 0 (omega (arith, as_many lids (lids_of t) c.lids_in_use-lid-items.ensures.lids, c.loop-lid-test.true)),
      );
      small = omega (arith, c.loop-lid.invariant.small, c.hops_to-hops.ensures.small);
    }
