use Rattle.std.proofs.Common.{◌∙◌, ◌<◌, ℕ, length, sym, subst, arith, length-set}
use Rattle.std.specs.Prelude.{IsSome}
use Rattle.fab_tables.specs.Entries.{Entries}
use Rattle.fab_tables.proofs.Paths.FallingRoutes.{place_below}
use Rattle.fab_sssp.specs.WeightTables.{weight_of}
use Rattle.fab_sssp.specs.LeastWeight.{AreDistances}
use Rattle.fab_sssp.specs.Laying.{IsLaid}
use Rattle.fab_tables.proofs.Rows.EntriesSet.{fits_kept, entry_kept}
use Rattle.fab_sssp.proofs.Tables.LidPlaces.{has_place}
use Rattle.fab_sssp.proofs.Tables.LaidTrees.{channel_low, one_laid, all_laid, laid_is_tree}
use Rattle.fab_sssp.proofs.laying.lay_lid.Goals as goal

pub unwrap-place-requires : goal.unwrap-place-requires
unwrap-place-requires c = subst (λ o. IsSome o) (sym c.place_of.ensures) (has_place c.args.fabric.now c.args.lid.0 c.requires.in_use)

pub distances-requires-clause-to : goal.distances-requires-clause-to
distances-requires-clause-to c = place_below c.args.fabric.now c.requires.fabric.rows c.args.lid.0 c.unwrap-place.result (sym c.place_of.ensures ∙ c.unwrap-place.ensures)

pub least_channel-channel-requires-clause-distances : goal.least_channel-channel-requires-clause-distances
least_channel-channel-requires-clause-distances c =
    let t = c.args.fabric.now in
    let W : ℕ → ℕ = λ k. weight_of c.args.weights.now k in
    subst (λ found. AreDistances t W c.unwrap-place.result.switch.0 found) (sym c.deref.ensures.value) c.in_ok-found.ensures

pub entry_along-requires : goal.entry_along-requires
entry_along-requires c = channel_low c.args.fabric.now (λ k. weight_of c.args.weights.now k) c.loop-s.s c.unwrap-place.result.switch.0 c.least_channel-channel.result c.least_channel-channel.ensures

pub loop-s-preserved : goal.loop-s-preserved
loop-s-preserved c =
    let t = c.args.fabric.now in
    let W : ℕ → ℕ = λ k. weight_of c.args.weights.now k in
    let s = c.loop-s.s in
    let lid = c.args.lid.0 in
    let e : Entries = c.loop-s.tables in
    let port = c.entry_along.result in
    let before = c.loop-s.invariant in
    let low : s < length t.switches = omega (arith, c.loop-s-test.true, c.switches-s-end.ensures.count) in
    let small : port < 256 = omega (arith, c.entry_along.type_inv) in
    rw (c.set-in-loop-s.ensures, c.set.ensures) (record {
      tree = length-set c.loop-s.tree s _ ∙ before.tree;
      fits = fits_kept t e s lid port before.fits low c.requires.in_use small;
      others = λ q other apart. entry_kept t e s lid port before.fits low c.requires.in_use q other (λ same also. apart also) ∙ before.others q other apart;
      laid = one_laid t W e lid c.unwrap-place.result c.loop-s.tree before.fits before.tree c.requires.in_use s port _ low c.least_channel-channel.ensures c.entry_along.ensures before.laid;
    })

pub returns-clause-laid : goal.returns-clause-laid
returns-clause-laid c =
    let t = c.args.fabric.now in
    all_laid t (λ k. weight_of c.args.weights.now k) c.loop-s.tables c.args.lid.0 c.unwrap-place.result c.loop-s.tree c.requires.fabric.rows c.loop-s.invariant.fits c.loop-s.invariant.tree
    (sym c.place_of.ensures ∙ c.unwrap-place.ensures) (λ q low. c.loop-s.invariant.laid q (omega (arith, low, c.loop-s-test.false, c.switches-s-end.ensures.count)))

pub returns-clause-tree : goal.returns-clause-tree
returns-clause-tree c =
    let t = c.args.fabric.now in
    let W : ℕ → ℕ = λ k. weight_of c.args.weights.now k in
    let laid : IsLaid t W c.loop-s.tables c.args.lid.0 c.loop-s.tree =
    all_laid t W c.loop-s.tables c.args.lid.0 c.unwrap-place.result c.loop-s.tree c.requires.fabric.rows c.loop-s.invariant.fits c.loop-s.invariant.tree
    (sym c.place_of.ensures ∙ c.unwrap-place.ensures) (λ q low. c.loop-s.invariant.laid q (omega (arith, low, c.loop-s-test.false, c.switches-s-end.ensures.count))) in
    laid_is_tree t W c.loop-s.tables c.args.lid.0 c.loop-s.tree c.requires.fabric.rows laid c.loop-s.invariant.tree
