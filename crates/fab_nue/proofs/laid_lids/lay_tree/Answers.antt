use Rattle.std.proofs.Common.{◌≡◌, ◌∙◌, ◌<◌, ◌%◌, ℕ, List, Option, Some, length, slice_set, refl, sym, ap, subst, arith}
use Rattle.std.proofs.lemmas.Option.{same_Some}
use Rattle.fab_model.specs.declared.rows.Place.{Place}
use Rattle.fab_model.specs.Topology.{place_of}
use Rattle.fab_tables.specs.TreeWalks.{DependsInTree}
use Rattle.fab_tables.proofs.Paths.FallingRoutes.{place_below}
use Rattle.fab_depgraph.specs.Listed.{IsListed}
use Rattle.fab_sssp.specs.WeightTables.{weight_of}
use Rattle.fab_escape.specs.Forest.{escape_tree}
use Rattle.fab_escape.specs.Trees.{IsEscapeForest}
use Rattle.fab_escape.specs.EscapeSet.{home}
use Rattle.fab_nue.specs.Search.{GetsStuck}
use Rattle.fab_nue.specs.Searching.{IsSearchedTo}
use Rattle.fab_nue.specs.Arenas.{listed_in}
use Rattle.fab_nue.specs.Forests.{forest_in}
use Rattle.fab_nue.specs.Laying.{IsLaidIn}
use Rattle.fab_nue.proofs.Lanes.LaneLists.{channels_at}
use Rattle.fab_nue.proofs.Lanes.Forests.{forest_read}
use Rattle.fab_nue.proofs.Lanes.EscapeSets.{home_at}
use Rattle.fab_nue.proofs.Laying.Reaching.{run_is_tree}
use Rattle.fab_nue.proofs.Laying.LaidTrees.{laid_by_search, laid_by_escape}
use Rattle.fab_nue.proofs.laid_lids.lay_tree.Goals as goal

pub search-requires-clause-channels : goal.search-requires-clause-channels
search-requires-clause-channels g c = channels_at c.args.fabric.now c.args.used.now c.home-lane.result c.lane_mut-arena.result.now c.requires.channels c.lane_mut-arena.ensures.value

pub write_escape_tree-requires-clause-forest : goal.write_escape_tree-requires-clause-forest
write_escape_tree-requires-clause-forest g c =
    let lane : ℕ = c.home-lane.result in
    let low : lane < length c.args.used.now = omega (arith, c.home-lane.ensures.below, c.lanes.ensures) in
    subst (λ f. IsEscapeForest c.args.fabric.now lane f) (forest_read c.args.forests.now lane c.index-forests-lane.result (omega (arith, low, c.requires.forests.each_lane)) c.index-forests-lane.is) (c.requires.forests.right lane low)

pub write_escape_tree-requires-clause-to : goal.write_escape_tree-requires-clause-to
write_escape_tree-requires-clause-to g c = place_below c.args.fabric.now c.requires.fabric.rows c.args.lid.0 c.unwrap.result (sym c.place_of.ensures ∙ c.unwrap.ensures)

pub returns-in-Complete-clause-laid : goal.returns-in-Complete-clause-laid
returns-in-Complete-clause-laid g c =
    let t = c.args.fabric.now in
    let W : ℕ → ℕ = λ k. weight_of c.args.weights.now k in
    let lid = c.args.lid.0 in
    let lane : ℕ = c.home-lane.result in
    let arena = c.lane_mut-arena.result.now in
    let at : lane ≡ home t lid (length c.args.used.now) = c.home-lane.ensures.home ∙ ap (λ k. home t lid k) c.lanes.ensures in
    let exact = c.search.ensures.exact in
    let ended = subst (λ a. IsSearchedTo t W exact.0.switch.0 arena c.search.new.used c.search.new.tree a) c.in-Complete.is exact.2 in
    subst (λ k. IsLaidIn t W (forest_in c.args.forests.now k) lid k c.args.used.now (slice_set c.args.used.now lane c.search.new.used) c.search.new.tree) at
    (laid_by_search t W (forest_in c.args.forests.now lane) lid lane exact.0 c.args.used.now arena c.search.new.used exact.1 c.lane_mut-arena.ensures.value c.search.ensures.channels c.search.new.tree
    (run_is_tree t W (λ (a b : ℕ). IsListed arena.listed a b) exact.0.switch.0 c.requires.fabric.rows ended.0.steps c.search.new.tree ended.0.run).each_switch ended.0 ended.1)

pub returns-in-Impasse-clause-laid : goal.returns-in-Impasse-clause-laid
returns-in-Impasse-clause-laid g c =
    let t = c.args.fabric.now in
    let W : ℕ → ℕ = λ k. weight_of c.args.weights.now k in
    let lid = c.args.lid.0 in
    let n = length c.args.used.now in
    let lane : ℕ = c.home-lane.result in
    let arena = c.lane_mut-arena.result.now in
    let low : lane < n = omega (arith, c.home-lane.ensures.below, c.lanes.ensures) in
    let at : lane ≡ home t lid n = c.home-lane.ensures.home ∙ ap (λ k. home t lid k) c.lanes.ensures in
    let exact = c.search.ensures.exact in
    let ended = subst (λ a. IsSearchedTo t W exact.0.switch.0 arena c.search.new.used c.search.new.tree a) c.in-Impasse.is exact.2 in
    let place = c.unwrap.result in
    let is : place_of t lid ≡ Some place = sym c.place_of.ensures ∙ c.unwrap.ensures in
    let same : exact.0 ≡ place = same_Some exact.0 place (sym exact.1 ∙ is) in
    let read : forest_in c.args.forests.now lane ≡ c.index-forests-lane.result = forest_read c.args.forests.now lane c.index-forests-lane.result (omega (arith, low, c.requires.forests.each_lane)) c.index-forests-lane.is in
    let written : escape_tree (forest_in c.args.forests.now lane) place.switch.0 ≡ c.write_escape_tree.new.tree = ap (λ f. escape_tree f place.switch.0) read ∙ sym c.write_escape_tree.ensures in
    let escapes : (a b : ℕ) → DependsInTree t (escape_tree (forest_in c.args.forests.now lane) place.switch.0) a b → IsListed (listed_in c.args.used.now lane) a b
    = λ a b own. subst (λ k. IsListed (listed_in c.args.used.now k) a b) (sym at) (c.requires.escapes a b (
      place.switch.0,
      place_below t c.requires.fabric.rows lid place is,
      sym (home_at t lid n place is),
      subst (λ k. DependsInTree t (escape_tree (forest_in c.args.forests.now k) place.switch.0) a b) at own,
    )) in
    subst (λ x. IsLaidIn t W (forest_in c.args.forests.now (home t lid n)) lid (home t lid n) c.args.used.now (slice_set c.args.used.now lane c.search.new.used) x) written
    (subst (λ k. IsLaidIn t W (forest_in c.args.forests.now k) lid k c.args.used.now (slice_set c.args.used.now lane c.search.new.used) (escape_tree (forest_in c.args.forests.now lane) place.switch.0)) at
    (laid_by_escape t W (forest_in c.args.forests.now lane) lid lane place c.args.used.now arena c.search.new.used is c.lane_mut-arena.ensures.value c.search.ensures.channels
    (subst (λ (p : Place). GetsStuck t W (λ (a b : ℕ). IsListed arena.listed a b) p.switch.0) same ended.0) ended.1 ended.2 escapes))
