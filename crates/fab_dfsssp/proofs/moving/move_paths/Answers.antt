use Rattle.std.proofs.Common.{◌≡◌, ◌+◌, arith, sym, ◌∙◌, subst, slice_index_or, slice_get, Some, false, Contains}
use Rattle.std.specs.Prelude.{nat_eq}
use Rattle.std.specs.Option.{option_eq}
use Rattle.std.proofs.lemmas.Option.{slice_get-get_or}
use Rattle.fab_tables.specs.LaneTables.{level}
use Rattle.fab_dfsssp.specs.declared.paths_over.Path.{Path}
use Rattle.fab_dfsssp.specs.Moving.{IsLevelOver}
use Rattle.fab_dfsssp.specs.PathsOver.{ArePathsOver}
use Rattle.fab_dfsssp.proofs.Levels.{level_same}
use Rattle.fab_dfsssp.proofs.PathsMoved.{listed_here, stays_here, moves_here, leaves_here, counts_here, listed_moved}
use Rattle.fab_dfsssp.proofs.Releveling.{paths_begin}
use Rattle.fab_dfsssp.proofs.moving.move_paths.Goals as goal
use Rattle.fab_dfsssp.proofs.moving.move_paths.Goals.{then-eq+in_ok-uncount_path, else-eq}

pub loop-path-init : goal.loop-path-init
loop-path-init c = record {
  releveled =
      paths_begin c.args.fabric.now (λ s lid. IsLevelOver c.args.fabric.now c.args.tables.now c.args.lanes.now c.args.lane c.args.edge s lid) (c.args.lane + 1) c.deref-path-items.result.now c.args.lanes.now
      c.requires.fits c.requires.maps;
  counts = c.requires.counts;
}

pub level-requires : goal.level-requires
level-requires c =
    let t = c.args.fabric.now in
    let e = c.args.tables.now in
    let old = c.args.lanes.now in
    let now = c.loop-path.lanes in
    let lane = c.args.lane in
    let edge = c.args.edge in
    let paths = c.deref-path-items.result.now in
    let over : ArePathsOver t e edge paths = subst (λ ps. ArePathsOver t e edge ps) (sym c.deref-path-items.ensures.value) c.in_ok-paths.ensures in
    let k = c.loop-path.path-index in
    let path : Path = slice_index_or paths k (record { from = record { 0 = 0 }; lid = record { 0 = 0 } }) in
    let at : slice_get paths k ≡ Some path = slice_get-get_or paths k (record { from = record { 0 = 0 }; lid = record { 0 = 0 } }) c.loop-path-test.true in
    let so_far = c.loop-path.invariant.releveled in
    let good = c.requires.fabric.rows in
    let tables = c.requires.tables in
    let here = listed_here t e good tables lane c.requires.lane edge old c.requires.fits paths over now k path at so_far in
    omega (arith, here.0.0, so_far.fits.switches)

pub set_level-requires-clause-in_use : goal.set_level-requires-clause-in_use
set_level-requires-clause-in_use c =
    let t = c.args.fabric.now in
    let e = c.args.tables.now in
    let old = c.args.lanes.now in
    let now = c.loop-path.lanes in
    let lane = c.args.lane in
    let edge = c.args.edge in
    let paths = c.deref-path-items.result.now in
    let over : ArePathsOver t e edge paths = subst (λ ps. ArePathsOver t e edge ps) (sym c.deref-path-items.ensures.value) c.in_ok-paths.ensures in
    let k = c.loop-path.path-index in
    let path : Path = slice_index_or paths k (record { from = record { 0 = 0 }; lid = record { 0 = 0 } }) in
    let at : slice_get paths k ≡ Some path = slice_get-get_or paths k (record { from = record { 0 = 0 }; lid = record { 0 = 0 } }) c.loop-path-test.true in
    let so_far = c.loop-path.invariant.releveled in
    let good = c.requires.fabric.rows in
    let tables = c.requires.tables in
    let here = listed_here t e good tables lane c.requires.lane edge old c.requires.fits paths over now k path at so_far in
    subst (λ ns. Contains ns path.lid.0) (sym so_far.fits.in_use) here.0.1

pub uncount_path-requires-clause-toward : goal.uncount_path-requires-clause-toward
uncount_path-requires-clause-toward c =
    let t = c.args.fabric.now in
    let e = c.args.tables.now in
    let old = c.args.lanes.now in
    let now = c.loop-path.lanes in
    let lane = c.args.lane in
    let edge = c.args.edge in
    let paths = c.deref-path-items.result.now in
    let over : ArePathsOver t e edge paths = subst (λ ps. ArePathsOver t e edge ps) (sym c.deref-path-items.ensures.value) c.in_ok-paths.ensures in
    let k = c.loop-path.path-index in
    let path : Path = slice_index_or paths k (record { from = record { 0 = 0 }; lid = record { 0 = 0 } }) in
    let at : slice_get paths k ≡ Some path = slice_get-get_or paths k (record { from = record { 0 = 0 }; lid = record { 0 = 0 } }) c.loop-path-test.true in
    let so_far = c.loop-path.invariant.releveled in
    let good = c.requires.fabric.rows in
    let tables = c.requires.tables in
    let here = listed_here t e good tables lane c.requires.lane edge old c.requires.fits paths over now k path at so_far in
    record { fabric = c.requires.fabric; fits = tables.fixed.fits; in_use = here.0.1 }

pub uncount_path-requires-clause-switch : goal.uncount_path-requires-clause-switch
uncount_path-requires-clause-switch c =
    let t = c.args.fabric.now in
    let e = c.args.tables.now in
    let old = c.args.lanes.now in
    let now = c.loop-path.lanes in
    let lane = c.args.lane in
    let edge = c.args.edge in
    let paths = c.deref-path-items.result.now in
    let over : ArePathsOver t e edge paths = subst (λ ps. ArePathsOver t e edge ps) (sym c.deref-path-items.ensures.value) c.in_ok-paths.ensures in
    let k = c.loop-path.path-index in
    let path : Path = slice_index_or paths k (record { from = record { 0 = 0 }; lid = record { 0 = 0 } }) in
    let at : slice_get paths k ≡ Some path = slice_get-get_or paths k (record { from = record { 0 = 0 }; lid = record { 0 = 0 } }) c.loop-path-test.true in
    let so_far = c.loop-path.invariant.releveled in
    let good = c.requires.fabric.rows in
    let tables = c.requires.tables in
    let here = listed_here t e good tables lane c.requires.lane edge old c.requires.fits paths over now k path at so_far in
    here.0.0

pub uncount_path-requires-clause-whole : goal.uncount_path-requires-clause-whole
uncount_path-requires-clause-whole c = c.loop-path.invariant.counts.whole

pub uncount_path-requires-clause-counted : goal.uncount_path-requires-clause-counted
uncount_path-requires-clause-counted c =
    let t = c.args.fabric.now in
    let e = c.args.tables.now in
    let old = c.args.lanes.now in
    let now = c.loop-path.lanes in
    let lane = c.args.lane in
    let edge = c.args.edge in
    let paths = c.deref-path-items.result.now in
    let over : ArePathsOver t e edge paths = subst (λ ps. ArePathsOver t e edge ps) (sym c.deref-path-items.ensures.value) c.in_ok-paths.ensures in
    let k = c.loop-path.path-index in
    let path : Path = slice_index_or paths k (record { from = record { 0 = 0 }; lid = record { 0 = 0 } }) in
    let at : slice_get paths k ≡ Some path = slice_get-get_or paths k (record { from = record { 0 = 0 }; lid = record { 0 = 0 } }) c.loop-path-test.true in
    let so_far = c.loop-path.invariant.releveled in
    let good = c.requires.fabric.rows in
    let tables = c.requires.tables in
    let here = listed_here t e good tables lane c.requires.lane edge old c.requires.fits paths over now k path at so_far in
    let on : level now path.from.0 path.lid.0 ≡ Some lane = sym c.level.ensures ∙ level_same c.level.result lane (sym c.eq.ensures ∙ c.if-eq.true) in
    λ other. omega (arith, c.loop-path.invariant.counts.counts other, leaves_here t e good tables lane c.requires.lane edge old c.requires.fits paths over now k path at so_far on other)

pub loop-path-preserved : goal.loop-path-preserved
loop-path-preserved c =
    let t = c.args.fabric.now in
    let e = c.args.tables.now in
    let old = c.args.lanes.now in
    let now = c.loop-path.lanes in
    let lane = c.args.lane in
    let edge = c.args.edge in
    let paths = c.deref-path-items.result.now in
    let over : ArePathsOver t e edge paths = subst (λ ps. ArePathsOver t e edge ps) (sym c.deref-path-items.ensures.value) c.in_ok-paths.ensures in
    let k = c.loop-path.path-index in
    let path : Path = slice_index_or paths k (record { from = record { 0 = 0 }; lid = record { 0 = 0 } }) in
    let at : slice_get paths k ≡ Some path = slice_get-get_or paths k (record { from = record { 0 = 0 }; lid = record { 0 = 0 } }) c.loop-path-test.true in
    let so_far = c.loop-path.invariant.releveled in
    let good = c.requires.fabric.rows in
    let tables = c.requires.tables in
    let here = listed_here t e good tables lane c.requires.lane edge old c.requires.fits paths over now k path at so_far in
    elim c.if-eq.branch [
      | then-eq+in_ok-uncount_path w ↦
          (let on : level now path.from.0 path.lid.0 ≡ Some lane = sym c.level.ensures ∙ level_same c.level.result lane (sym c.eq.ensures ∙ w.if-eq.true) in
          rw (w.lanes-is, w.counts-is, w.set_level.ensures) (record {
            releveled = moves_here t e good tables lane c.requires.lane edge old c.requires.fits paths over now k path at so_far on;
            counts = counts_here t e good tables lane c.requires.lane edge old c.requires.fits paths over now k path at so_far on c.loop-path.counts w.uncount_path.new.edges c.loop-path.invariant.counts
                w.in_ok-uncount_path.ensures.whole w.in_ok-uncount_path.ensures.nodes w.in_ok-uncount_path.ensures.counts;
          }))
      | else-eq w ↦
          (let off : option_eq nat_eq (level now path.from.0 path.lid.0) (Some lane) ≡ false = rw (sym c.level.ensures) (sym c.eq.ensures ∙ w.if-eq.false) in
          rw (w.lanes-is, w.counts-is) (record {
            releveled = stays_here t e good tables lane c.requires.lane edge old c.requires.fits paths over now k path at so_far off;
            counts = c.loop-path.invariant.counts;
          }))
    ]

pub returns-clause-moves : goal.returns-clause-moves
returns-clause-moves c =
    listed_moved c.args.fabric.now c.args.tables.now c.args.lane c.args.edge c.args.lanes.now c.requires.fits c.deref-path-items.result.now
    (subst (λ ps. ArePathsOver c.args.fabric.now c.args.tables.now c.args.edge ps) (sym c.deref-path-items.ensures.value) c.in_ok-paths.ensures) c.loop-path.path-index c.loop-path.lanes
    (omega (arith, c.loop-path-test.false)) c.loop-path.invariant.releveled

pub returns-clause-count : goal.returns-clause-count
returns-clause-count c = c.loop-path.invariant.releveled.lane_count

pub returns-clause-fits : goal.returns-clause-fits
returns-clause-fits c = c.loop-path.invariant.releveled.fits

pub returns-clause-maps : goal.returns-clause-maps
returns-clause-maps c = c.loop-path.invariant.releveled.maps

pub returns-clause-counts : goal.returns-clause-counts
returns-clause-counts c = c.loop-path.invariant.counts
