use Rattle.std.proofs.Common.{◌<◌, ℕ, length, arith, ◌∙◌, ap, slice_index_or}
use Rattle.std.specs.Prelude.{sum_by}
use Rattle.std.proofs.lemmas.List.Sums.{sum_by_more}
use Rattle.fab_model.specs.Topology.{lids_of}
use Rattle.fab_model.proofs.Order.{lids_are_counted}
use Rattle.fab_model.proofs.LidsInUse.{as_many, number_at, all_lids}
use Rattle.fab_dfsssp.specs.LevelPaths.{level_paths_to}
use Rattle.fab_dfsssp.proofs.LaneCounts.{paths_to_few}
use Rattle.fab_dfsssp.proofs.lane_edges.lane_edges.Goals as goal

pub loop-lid-init : goal.loop-lid-init
loop-lid-init c = record {
  whole = c.in_ok-edges.ensures.whole;
  nodes = c.in_ok-edges.ensures.nodes ∙ c.channels.ensures.count;
  counts = c.in_ok-edges.ensures.none;
  few = λ edge. omega (arith, c.in_ok-edges.ensures.none edge);
}

pub count_paths-requires-clause-room : goal.count_paths-requires-clause-room
count_paths-requires-clause-room c = λ edge.
    omega (
      arith,
      c.loop-lid.invariant.few edge,
      c.loop-lid-test.true,
      as_many c.lids_in_use-lid-items.result.now (lids_of c.args.fabric.now) c.lids_in_use-lid-items.ensures.lids,
      lids_are_counted c.args.fabric.now,
      c.requires.fabric.rows.lid_count,
      c.requires.fabric.rows.switch_count,
    )

pub loop-lid-preserved : goal.loop-lid-preserved
loop-lid-preserved c =
    let t = c.args.fabric.now in
    let e = c.args.tables.now in
    let lids = c.lids_in_use-lid-items.result.now in
    let k = c.loop-lid.lid-index in
    let lid = slice_index_or lids k (record { 0 = 0 }) in
    let low : k < length (lids_of t) = omega (arith, c.loop-lid-test.true, as_many lids (lids_of t) c.lids_in_use-lid-items.ensures.lids) in
    record {
      whole = c.in_ok-count_paths.ensures.whole;
      nodes = c.in_ok-count_paths.ensures.nodes ∙ c.loop-lid.invariant.nodes;
      counts = λ edge.
          (let f : ℕ → ℕ = λ n. level_paths_to t e c.args.lanes.now c.args.lane edge n in
          omega (
            arith,
            c.in_ok-count_paths.ensures.counts edge,
            c.loop-lid.invariant.counts edge,
            sum_by_more f (lids_of t) k 0 low,
            ap f (number_at lids (lids_of t) c.lids_in_use-lid-items.ensures.lids k (record { 0 = 0 }) 0 c.loop-lid-test.true),
          ));
      few = λ edge. omega (
        arith,
        c.in_ok-count_paths.ensures.counts edge,
        c.loop-lid.invariant.few edge,
        paths_to_few t e c.args.lanes.now c.args.lane lid.0 0 edge,
        c.requires.fabric.rows.switch_count,
      );
    }

pub returns : goal.returns
returns c = record {
  whole = c.loop-lid.invariant.whole;
  nodes = c.loop-lid.invariant.nodes;
  counts = λ edge.
      c.loop-lid.invariant.counts edge
      ∙ ap (sum_by (λ lid. level_paths_to c.args.fabric.now c.args.tables.now c.args.lanes.now c.args.lane edge lid))
      (all_lids c.lids_in_use-lid-items.result.now (lids_of c.args.fabric.now) c.lids_in_use-lid-items.ensures.lids c.loop-lid.lid-index c.loop-lid-test.false);
}
