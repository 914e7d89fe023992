use Rattle.std.proofs.Common.{sym, ◌∙◌, arith}
use Rattle.fab_model.specs.Topology.{lids_of}
use Rattle.fab_model.proofs.LidsInUse.{as_many, lid_there}
use Rattle.fab_tables.proofs.Faults.RouteFaults.{none_by_lid, first_by_lid, one_lid_clear}
use Rattle.fab_tables.proofs.Faults.StartFaults.{none_found}
use Rattle.fab_tables.proofs.reaching.first_unreached.Goals as goal

pub returns-then-is_some : goal.returns-then-is_some
returns-then-is_some c =
    first_by_lid c.args.fabric.now c.args.tables.now c.requires.fits c.loop-lid.lid-index _
    (lid_there c.lids_in_use-lid-items.result.now (lids_of c.args.fabric.now) c.lids_in_use-lid-items.ensures.lids c.loop-lid.lid-index _ c.loop-lid-test.true)
    c.loop-lid.invariant.1 c.unreached_for-unreached.result (sym c.is_some.ensures ∙ c.if-is_some.true) c.unreached_for-unreached.ensures

pub loop-lid-preserved : goal.loop-lid-preserved
loop-lid-preserved c = (
  omega arith,
  one_lid_clear c.args.fabric.now c.args.tables.now c.requires.fits c.loop-lid.lid-index _
      (lid_there c.lids_in_use-lid-items.result.now (lids_of c.args.fabric.now) c.lids_in_use-lid-items.ensures.lids c.loop-lid.lid-index _ c.loop-lid-test.true)
      c.loop-lid.invariant.1 c.unreached_for-unreached.result (none_found c.unreached_for-unreached.result (sym c.is_some.ensures ∙ c.if-is_some.false)) c.unreached_for-unreached.ensures,
)

pub returns : goal.returns
returns c =
    none_by_lid c.args.fabric.now c.args.tables.now
    (λ k lid low at. c.loop-lid.invariant.1 k lid (omega (arith, as_many c.lids_in_use-lid-items.result.now (lids_of c.args.fabric.now) c.lids_in_use-lid-items.ensures.lids)) at)
