use Rattle.std.proofs.Common.{◌∙◌, ap, arith, slice_index_or}
use Rattle.fab_model.specs.Topology.{lids_of}
use Rattle.fab_model.proofs.LidsInUse.{as_many, lid_there}
use Rattle.fab_transit.proofs.Looking.{keeps_on}
use Rattle.fab_transit.proofs.EachLid.{one_lid_more, all_walks}
use Rattle.fab_transit.proofs.walks.find_walks.Goals as goal

pub loop-lid-preserved : goal.loop-lid-preserved
loop-lid-preserved c =
    let g = c.args.plans.now in
    let lids = c.lids_in_use-lid-items.result.now in
    let begun = c.in_ok-begin.ensures in
    let gone = c.in_ok-go_on.ensures in (
      gone.from_walks,
      gone.rooms,
      one_lid_more g.fabric g.change c.loop-lid.walks c.go_on.new.walks c.loop-lid.lid-index (slice_index_or lids c.loop-lid.lid-index (record { 0 = 0 })).0
          (lid_there lids (lids_of g.fabric) (c.lids_in_use-lid-items.ensures.lids ∙ ap lids_of c.fabric.ensures.fabric) c.loop-lid.lid-index (record { 0 = 0 }) c.loop-lid-test.true)
          (keeps_on c.loop-lid.walks c.begin.new.walks c.go_on.new.walks begun.advances.keeps gone.keeps) c.loop-lid.invariant.2 gone.has,
    )

pub returns : goal.returns
returns c =
    let g = c.args.plans.now in
    let lids = c.lids_in_use-lid-items.result.now in
    all_walks g.fabric g.change c.loop-lid.walks c.loop-lid.lid-index (omega (arith, c.loop-lid-test.false, as_many lids (lids_of g.fabric) (c.lids_in_use-lid-items.ensures.lids ∙ ap lids_of c.fabric.ensures.fabric)))
    c.loop-lid.invariant.0 c.loop-lid.invariant.2
