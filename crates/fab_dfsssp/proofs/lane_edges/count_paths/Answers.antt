use Rattle.std.proofs.Common.{◌≡◌, ◌+◌, length, arith, refl, sym, ◌∙◌, ap}
use Rattle.fab_dfsssp.specs.Assignments.{count_below}
use Rattle.fab_dfsssp.specs.LevelPaths.{is_level_over}
use Rattle.fab_dfsssp.proofs.LaneCounts.{path_counted, no_path, count_below-le}
use Rattle.fab_dfsssp.proofs.Levels.{level_same}
use Rattle.fab_dfsssp.proofs.lane_edges.count_paths.Goals as goal
use Rattle.fab_dfsssp.proofs.lane_edges.count_paths.Goals.{then-eq+in_ok-count_path, else-eq}

pub loop-s-init : goal.loop-s-init
loop-s-init c = record { whole = c.requires.whole; nodes = refl; counts = λ edge. omega arith }

pub count_path-requires-clause-room : goal.count_path-requires-clause-room
count_path-requires-clause-room c = λ edge.
    let t = c.args.fabric.now in
    let e = c.args.tables.now in
    let on = sym c.level.ensures ∙ level_same c.level.result c.args.lane (sym c.eq.ensures ∙ c.if-eq.true) in
    omega (
      arith,
      c.loop-s.invariant.counts edge,
      c.requires.room edge,
      path_counted t e c.args.lanes.now c.args.lane c.args.lid.0 c.loop-s.s edge c.requires.toward.fabric.rows c.requires.tables on,
      count_below-le (c.loop-s.s + 1) (is_level_over t e c.args.lanes.now c.args.lane edge c.args.lid.0),
      c.loop-s-test.true,
      c.switches-s-end.ensures.count,
    )

pub loop-s-preserved : goal.loop-s-preserved
loop-s-preserved c =
    let t = c.args.fabric.now in
    let e = c.args.tables.now in
    let l = c.args.lanes.now in
    elim c.if-eq.branch [
      | then-eq+in_ok-count_path w ↦
          (rw w.edges-is (record {
            whole = w.in_ok-count_path.ensures.whole;
            nodes = w.in_ok-count_path.ensures.nodes ∙ c.loop-s.invariant.nodes;
            counts = λ edge. omega (
              arith,
              w.in_ok-count_path.ensures.counts edge,
              c.loop-s.invariant.counts edge,
              path_counted t e l c.args.lane c.args.lid.0 c.loop-s.s edge c.requires.toward.fabric.rows c.requires.tables
                  (sym c.level.ensures ∙ level_same c.level.result c.args.lane (sym c.eq.ensures ∙ w.if-eq.true)),
            );
          }))
      | else-eq w ↦
          (rw w.edges-is (record {
            whole = c.loop-s.invariant.whole;
            nodes = c.loop-s.invariant.nodes;
            counts = λ edge. omega (
              arith,
              c.loop-s.invariant.counts edge,
              no_path t e l c.args.lane c.args.lid.0 c.loop-s.s edge (rw (sym c.level.ensures) (sym c.eq.ensures ∙ w.if-eq.false)),
            );
          }))
    ]

pub returns-clause-counts : goal.returns-clause-counts
returns-clause-counts c = λ edge.
    let all : c.loop-s.s ≡ length c.args.fabric.now.switches = omega (arith, c.loop-s-test.false, c.loop-s.auto.s-end, c.switches-s-end.ensures.count) in
    omega (
      arith,
      c.loop-s.invariant.counts edge,
      ap (λ n. count_below n (is_level_over c.args.fabric.now c.args.tables.now c.args.lanes.now c.args.lane edge c.args.lid.0)) all,
    )
