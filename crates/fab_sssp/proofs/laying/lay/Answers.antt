use Rattle.std.proofs.Common.{arith}
use Rattle.fab_model.specs.Topology.{lids_of}
use Rattle.fab_model.proofs.LidsInUse.{as_many, number_at}
use Rattle.fab_sssp.specs.LeastWeightTables.{AreLeastWeightTables}
use Rattle.fab_sssp.proofs.Tables.LaidLids.{one_lid_read, all_lids_laid}
use Rattle.fab_sssp.proofs.Tables.RoutesLeast.{least_weight_reaches}
use Rattle.fab_sssp.proofs.laying.lay.Goals as goal

pub loop-lid-preserved : goal.loop-lid-preserved
loop-lid-preserved c =
    let t = c.args.fabric.now in
    let lids = c.lids_in_use-lid-items in
    let k = c.loop-lid.lid-index in (
      c.in_ok-lay_lid.ensures.tree.each_switch,
      one_lid_read t c.loop-lid.tables c.lay_lid.new.tables c.loop-lid.weights c.raise.new.self k _ c.lay_lid.new.tree lids.ensures.kept.rows c.loop-lid.invariant.1
          (omega (arith, as_many lids.result.now (lids_of t) lids.ensures.lids, c.loop-lid-test.true)) (number_at lids.result.now (lids_of t) lids.ensures.lids k _ 0 c.loop-lid-test.true) c.in_ok-lay_lid.ensures.laid
          c.in_ok-lay_lid.ensures.others c.in_ok-lay_lid.ensures.fits c.raise.ensures.made_for c.raise.ensures.raised c.raise.ensures.weights,
    )

pub returns-clause-tables : goal.returns-clause-tables
returns-clause-tables c =
    let lids = c.lids_in_use-lid-items in
    all_lids_laid c.args.fabric.now c.loop-lid.tables c.loop-lid.weights c.loop-lid.lid-index c.loop-lid.invariant.1 (omega (arith, as_many lids.result.now (lids_of c.args.fabric.now) lids.ensures.lids, c.loop-lid-test.false))

pub returns-clause-reaches : goal.returns-clause-reaches
returns-clause-reaches c =
    let lids = c.lids_in_use-lid-items in
    let tables : AreLeastWeightTables c.args.fabric.now c.loop-lid.tables =
    all_lids_laid c.args.fabric.now c.loop-lid.tables c.loop-lid.weights c.loop-lid.lid-index c.loop-lid.invariant.1 (omega (arith, as_many lids.result.now (lids_of c.args.fabric.now) lids.ensures.lids, c.loop-lid-test.false)) in
    least_weight_reaches c.args.fabric.now c.loop-lid.tables lids.ensures.kept.rows tables
