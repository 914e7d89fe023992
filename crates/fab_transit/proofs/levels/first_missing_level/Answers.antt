use Rattle.std.proofs.Common.{sym, ◌∙◌, ap, arith}
use Rattle.fab_model.specs.Topology.{lids_of}
use Rattle.fab_model.proofs.LidsInUse.{as_many, lid_there}
use Rattle.fab_transit.proofs.MissingLevels.{found_first, found_none, one_lid_more, all_lids}
use Rattle.fab_transit.proofs.levels.first_missing_level.Goals as goal

pub returns-then-is_some : goal.returns-then-is_some
returns-then-is_some c =
    let g = c.args.plans.now in
    let lids = c.lids_in_use-lid-items.result.now in
    let are = c.lids_in_use-lid-items.ensures.lids ∙ ap lids_of c.fabric.ensures.fabric in
    found_first g c.fabric.ensures.kept c.loop-lid.lid-index _ (lid_there lids (lids_of g.fabric) are c.loop-lid.lid-index (record { 0 = 0 }) c.loop-lid-test.true)
    c.loop-lid.invariant c.missing_for-missing.result (sym c.is_some.ensures ∙ c.if-is_some.true) c.missing_for-missing.ensures

pub loop-lid-preserved : goal.loop-lid-preserved
loop-lid-preserved c =
    let g = c.args.plans.now in
    let lids = c.lids_in_use-lid-items.result.now in
    let are = c.lids_in_use-lid-items.ensures.lids ∙ ap lids_of c.fabric.ensures.fabric in
    one_lid_more g.fabric g.change c.loop-lid.lid-index _ (lid_there lids (lids_of g.fabric) are c.loop-lid.lid-index (record { 0 = 0 }) c.loop-lid-test.true) c.loop-lid.invariant
    (found_none g.fabric g.change _ c.missing_for-missing.result (sym c.is_some.ensures ∙ c.if-is_some.false) c.missing_for-missing.ensures)

pub returns : goal.returns
returns c =
    let g = c.args.plans.now in
    let lids = c.lids_in_use-lid-items.result.now in
    let are = c.lids_in_use-lid-items.ensures.lids ∙ ap lids_of c.fabric.ensures.fabric in
    all_lids g.fabric g.change c.loop-lid.lid-index (omega (arith, as_many lids (lids_of g.fabric) are)) c.loop-lid.invariant
