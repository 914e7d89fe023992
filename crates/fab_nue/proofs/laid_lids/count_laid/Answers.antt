use Rattle.std.proofs.Common.{◌≡◌, ◌<◌, ◌+◌, ℕ, length, slice_index_or, sym, ◌∙◌, arith}
use Rattle.fab_model.specs.Topology.{lids_of}
use Rattle.fab_model.proofs.LidsInUse.{as_many, number_at}
use Rattle.fab_nue.proofs.Laying.LayingLoop.{few_lids, one_counted, all_counted}
use Rattle.fab_nue.proofs.laid_lids.count_laid.Goals as goal
use Rattle.fab_nue.proofs.laid_lids.count_laid.Goals.{then-is_laid_in, else-is_laid_in}

pub overflow_add-laid : goal.overflow_add-laid
overflow_add-laid c =
    let t = c.args.fabric.now in
    let lids = c.lids_in_use-lid-items in
    omega (arith, c.loop-lid.invariant.few, c.loop-lid-test.true, as_many lids.result.now (lids_of t) lids.ensures.lids, few_lids t lids.ensures.kept.rows)

pub loop-lid-preserved : goal.loop-lid-preserved
loop-lid-preserved c =
    let t = c.args.fabric.now in
    let lids = c.lids_in_use-lid-items in
    let k = c.loop-lid.lid-index in
    let lid = slice_index_or lids.result.now k (record { 0 = 0 }) in
    let low : k < length (lids_of t) = omega (arith, as_many lids.result.now (lids_of t) lids.ensures.lids, c.loop-lid-test.true) in
    let at : slice_index_or (lids_of t) k 0 ≡ lid.0 = number_at lids.result.now (lids_of t) lids.ensures.lids k (record { 0 = 0 }) 0 c.loop-lid-test.true in
    elim c.if-is_laid_in.branch [
      | then-is_laid_in w ↦ record {
        counted = omega (arith, w.laid-is, one_counted t c.args.lanes c.args.kept.now k lid.0 c.args.lane c.loop-lid.laid _ low at (sym c.is_laid_in.ensures ∙ w.if-is_laid_in.true) c.loop-lid.invariant.counted);
        few = omega (arith, w.laid-is, c.loop-lid.invariant.few);
      }
      | else-is_laid_in w ↦ record {
        counted = omega (arith, w.laid-is, one_counted t c.args.lanes c.args.kept.now k lid.0 c.args.lane c.loop-lid.laid _ low at (sym c.is_laid_in.ensures ∙ w.if-is_laid_in.false) c.loop-lid.invariant.counted);
        few = omega (arith, w.laid-is, c.loop-lid.invariant.few);
      }
    ]

pub returns-clause-count : goal.returns-clause-count
returns-clause-count c =
    let t = c.args.fabric.now in
    let lids = c.lids_in_use-lid-items in
    all_counted t c.args.lanes c.args.kept.now c.loop-lid.lid-index c.args.lane c.loop-lid.laid (omega (arith, c.loop-lid-test.false, as_many lids.result.now (lids_of t) lids.ensures.lids)) c.loop-lid.invariant.counted

pub returns-clause-few : goal.returns-clause-few
returns-clause-few c =
    let t = c.args.fabric.now in
    let lids = c.lids_in_use-lid-items in
    omega (arith, c.loop-lid.invariant.few, c.loop-lid.auto.lid-index-end, as_many lids.result.now (lids_of t) lids.ensures.lids, few_lids t lids.ensures.kept.rows)
