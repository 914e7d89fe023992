use Rattle.std.proofs.Common.{◌≡◌, ◌*◌, refl, ◌∙◌, ap, arith, length, replicate, false, Bool, slice_index_or}
use Rattle.fab_model.specs.Topology.{lids_of}
use Rattle.fab_model.proofs.LidsInUse.{as_many, lid_there, contains_lid}
use Rattle.fab_certify.proofs.Collected.CollectingStarts.{from_no_routes, one_lid_more, are_dependencies}
use Rattle.fab_certify.proofs.collecting.collect.Goals as goal

pub loop-lid-init : goal.loop-lid-init
loop-lid-init c =
    let t = c.args.fabric.now in
    let l = c.args.lanes.now in
    let nodes : c.channels.result * c.from.result ≡ length t.channels * l.count = rw (c.channels.ensures.count, c.from.ensures, c.count.ensures) refl in (
      c.requires.room,
      from_no_routes t c.args.tables.now l c.in_ok-dependencies.dependencies (c.in_ok-dependencies.ensures.used ∙ ap (λ n. replicate {A = Bool} n false) nodes) c.in_ok-dependencies.ensures.pairs,
      λ k lid low at. absurd (omega arith),
    )

pub collect_for-requires-clause-toward : goal.collect_for-requires-clause-toward
collect_for-requires-clause-toward c = record {
  fabric = c.channels.ensures.kept;
  fits = c.requires.tables;
  in_use = contains_lid c.lids_in_use-lid-items.result.now (lids_of c.args.fabric.now) c.lids_in_use-lid-items.ensures.lids c.loop-lid.lid-index (record { 0 = 0 }) c.loop-lid-test.true;
}

pub collect_for-requires-clause-starts : goal.collect_for-requires-clause-starts
collect_for-requires-clause-starts c = c.standing-starts.ensures c.args.fabric.now c.requires.starts

pub loop-lid-preserved : goal.loop-lid-preserved
loop-lid-preserved c =
    let t = c.args.fabric.now in
    let told = c.in_ok-collect_for.ensures in
    let lids = c.lids_in_use-lid-items.result.now in
    let lid = slice_index_or lids c.loop-lid.lid-index (record { 0 = 0 }) in (
      told.room,
      told.from_routes,
      one_lid_more t c.args.tables.now c.args.lanes.now c.loop-lid.lid-index lid.0 c.loop-lid.dependencies c.collect_for.new.dependencies
          (lid_there lids (lids_of t) c.lids_in_use-lid-items.ensures.lids c.loop-lid.lid-index (record { 0 = 0 }) c.loop-lid-test.true) c.loop-lid.invariant.2 told.grows told.has,
    )

pub returns : goal.returns
returns c =
    are_dependencies c.args.fabric.now c.args.tables.now c.args.lanes.now c.loop-lid.dependencies c.loop-lid.invariant.1
    (λ k lid low at. c.loop-lid.invariant.2 k lid (omega (arith, low, c.loop-lid-test.false, as_many c.lids_in_use-lid-items.result.now (lids_of c.args.fabric.now) c.lids_in_use-lid-items.ensures.lids)) at)
