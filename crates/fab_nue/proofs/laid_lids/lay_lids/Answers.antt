use Rattle.std.proofs.Common.{◌≡◌, ◌≢◌, ◌<◌, ◌≤◌, ◌+◌, ◌*◌, ℕ, inl, List, Option, Some, true, false, length, slice_index_or, refl, sym, ◌∙◌, ap, subst, arith}
use Rattle.std.specs.Prelude.{Contains, not}
use Rattle.std.specs.List.Sorted.{IsStrictlyIncreasing}
use Rattle.std.proofs.lemmas.Bool.{false≢true}
use Rattle.std.proofs.lemmas.List.{length-replicate}
use Rattle.fab_model.specs.Topology.{Topology, lids_of, place_of}
use Rattle.fab_model.proofs.LidsInUse.{as_many, number_at, contains_lid}
use Rattle.fab_tables.proofs.Joined.Ascending.{lids_are}
use Rattle.fab_sssp.specs.WeightTables.{weight_of}
use Rattle.fab_depgraph.specs.Listed.{IsListed}
use Rattle.fab_escape.specs.EscapeSet.{home}
use Rattle.fab_nue.specs.NuePlan.{IsLaid}
use Rattle.fab_nue.specs.Arenas.{listed_in, spare_in}
use Rattle.fab_nue.specs.Forests.{AreForests, forest_in, DependsTowards}
use Rattle.fab_nue.specs.Laying.{IsLaidIn, AreLaidBelow, IsTreeToward}
use Rattle.fab_nue.proofs.Lanes.LaneLists.{same_length}
use Rattle.fab_nue.proofs.Lanes.EscapeSets.{towards_escapes}
use Rattle.fab_nue.proofs.Laying.LidPlaces.{has_place}
use Rattle.fab_nue.proofs.Laying.Members.{found}
use Rattle.fab_nue.proofs.Laying.Reaching.{home_below}
use Rattle.fab_nue.proofs.Laying.Weighing.{among}
use Rattle.fab_nue.proofs.Laying.LaidTrees.{laid_toward}
use Rattle.fab_nue.proofs.Laying.LayingLoop.{IsSoFar, so_far_begins, up_to, kept_passes, laid_goes_on, room_here, room_passes, room_goes_on, few_before, same_lists_laid, all_before}
use Rattle.fab_nue.proofs.laid_lids.lay_lids.Goals as goal
use Rattle.fab_nue.proofs.laid_lids.lay_lids.Goals.{then-not-contains, else-not-contains}

pub loop-lid-init : goal.loop-lid-init
loop-lid-init g c =
    let t = c.args.fabric.now in
    let n = length c.args.used.now in
    let rise : IsStrictlyIncreasing (lids_of t) = (lids_are t c.lids_in_use-lid-items.ensures.kept).ascending in
    record {
      tree = ap length c.in_ok-tree.ensures ∙ length-replicate (length t.switches) _;
      room = c.in_ok-room.ensures;
      channels = c.make_room.ensures.channels;
      room_left = c.in_ok-make_room.ensures.room;
      laid = λ old laid x. so_far_begins t n old c.args.kept.now (λ lane. forest_in c.args.forests.now lane) rise laid c.args.tables.now c.args.weights.now c.make_room.new.used
          (same_lists_laid t n old c.args.kept.now (λ lane. forest_in c.args.forests.now lane) laid 0 c.args.tables.now c.args.weights.now c.args.used.now c.make_room.new.used c.make_room.ensures.listed x);
    }

pub lay_tree-requires-clause-forests : goal.lay_tree-requires-clause-forests
lay_tree-requires-clause-forests g c = subst (λ k. AreForests c.args.fabric.now k c.args.forests.now) (sym (same_length c.args.used.now c.loop-lid.used c.loop-lid.invariant.channels)) c.requires.forests

pub lay_tree-requires-clause-weights : goal.lay_tree-requires-clause-weights
lay_tree-requires-clause-weights g c = (c.loop-lid.invariant.laid c.requires.begun.0 c.requires.begun.1 c.requires.begun.2).3.made_for

pub lay_tree-requires-clause-spare : goal.lay_tree-requires-clause-spare
lay_tree-requires-clause-spare g c =
    let t = c.args.fabric.now in
    let n = length c.args.used.now in
    let lids = c.lids_in_use-lid-items in
    let k = c.loop-lid.lid-index in
    let lid = (slice_index_or lids.result.now k (record { 0 = 0 })).0 in
    let low : k < length (lids_of t) = omega (arith, as_many lids.result.now (lids_of t) lids.ensures.lids, c.loop-lid-test.true) in
    let at : slice_index_or (lids_of t) k 0 ≡ lid = number_at lids.result.now (lids_of t) lids.ensures.lids k (record { 0 = 0 }) 0 c.loop-lid-test.true in
    let in_use : Contains (lids_of t) lid = contains_lid lids.result.now (lids_of t) lids.ensures.lids k (record { 0 = 0 }) c.loop-lid-test.true in
    let place = has_place t lid in_use in
    let none : ¬ Contains c.args.kept.now lid = λ has. false≢true (sym c.if-not-contains.true ∙ c.contains.ensures ∙ among c.args.kept.now lid has) in
    subst (λ m. length t.switches ≤ spare_in c.loop-lid.used (home t lid m)) (sym (same_length c.args.used.now c.loop-lid.used c.loop-lid.invariant.channels))
    (room_here t n c.args.kept.now k lid low at none c.loop-lid.used (home_below t lid n place.0 c.requires.lanes.0 place.1) c.loop-lid.invariant.room_left)

pub take_tree-requires-clause-tables : goal.take_tree-requires-clause-tables
take_tree-requires-clause-tables g c = (c.loop-lid.invariant.laid c.requires.begun.0 c.requires.begun.1 c.requires.begun.2).3.fixed

pub take_tree-requires-clause-made_for : goal.take_tree-requires-clause-made_for
take_tree-requires-clause-made_for g c = (c.loop-lid.invariant.laid c.requires.begun.0 c.requires.begun.1 c.requires.begun.2).3.made_for

pub take_tree-requires-clause-few : goal.take_tree-requires-clause-few
take_tree-requires-clause-few g c =
    let t = c.args.fabric.now in
    let n = length c.args.used.now in
    let lids = c.lids_in_use-lid-items in
    let k = c.loop-lid.lid-index in
    let lid = (slice_index_or lids.result.now k (record { 0 = 0 })).0 in
    let low : k < length (lids_of t) = omega (arith, as_many lids.result.now (lids_of t) lids.ensures.lids, c.loop-lid-test.true) in
    let at : slice_index_or (lids_of t) k 0 ≡ lid = number_at lids.result.now (lids_of t) lids.ensures.lids k (record { 0 = 0 }) 0 c.loop-lid-test.true in
    let in_use : Contains (lids_of t) lid = contains_lid lids.result.now (lids_of t) lids.ensures.lids k (record { 0 = 0 }) c.loop-lid-test.true in
    let rise : IsStrictlyIncreasing (lids_of t) = (lids_are t lids.ensures.kept).ascending in
    let none : ¬ Contains c.args.kept.now lid = λ has. false≢true (sym c.if-not-contains.true ∙ c.contains.ensures ∙ among c.args.kept.now lid has) in
    let here = up_to t n c.requires.begun.0 c.args.kept.now (λ lane. forest_in c.args.forests.now lane) rise k lid c.loop-lid.tables c.loop-lid.weights c.loop-lid.used low at
    (c.loop-lid.invariant.laid c.requires.begun.0 c.requires.begun.1 c.requires.begun.2) in
    omega (arith, here.raised, few_before t c.args.kept.now lid rise (in_use, none))

pub take_tree-requires-clause-tree : goal.take_tree-requires-clause-tree
take_tree-requires-clause-tree g c =
    let t = c.args.fabric.now in
    let W : ℕ → ℕ = λ d. weight_of c.loop-lid.weights d in
    let lids = c.lids_in_use-lid-items in
    let k = c.loop-lid.lid-index in
    let lid = (slice_index_or lids.result.now k (record { 0 = 0 })).0 in
    let m = length c.loop-lid.used in
    let x = c.lay_tree.ensures.laid in
    let same : m ≡ length c.args.used.now = same_length c.args.used.now c.loop-lid.used c.loop-lid.invariant.channels in
    laid_toward t lid x.place lids.ensures.kept.rows x.in_use W (λ (a b : ℕ). IsListed (listed_in c.loop-lid.used (home t lid m)) a b) (home t lid m) (forest_in c.args.forests.now (home t lid m)) c.lay_tree.new.tree
    (c.requires.forests.right (home t lid m) (omega (arith, same, home_below t lid m x.place (omega (arith, same, c.requires.lanes.0)) x.in_use))) x.laid

pub lay_tree-requires-clause-escapes : goal.lay_tree-requires-clause-escapes
lay_tree-requires-clause-escapes g c = λ a b towards.
    let t = c.args.fabric.now in
    let n = length c.args.used.now in
    let lids = c.lids_in_use-lid-items in
    let k = c.loop-lid.lid-index in
    let lid = (slice_index_or lids.result.now k (record { 0 = 0 })).0 in
    let in_use : Contains (lids_of t) lid = contains_lid lids.result.now (lids_of t) lids.ensures.lids k (record { 0 = 0 }) c.loop-lid-test.true in
    let place = has_place t lid in_use in
    let same : length c.loop-lid.used ≡ n = same_length c.args.used.now c.loop-lid.used c.loop-lid.invariant.channels in
    let towards_here : DependsTowards t n (λ lane. forest_in c.args.forests.now lane) (length t.switches) (home t lid n) a b
    = subst (λ m. DependsTowards t m (λ lane. forest_in c.args.forests.now lane) (length t.switches) (home t lid m) a b) same towards in
    subst (λ m. IsListed (listed_in c.loop-lid.used (home t lid m)) a b) (sym same)
    (((c.loop-lid.invariant.laid c.requires.begun.0 c.requires.begun.1 c.requires.begun.2).3.listed (home t lid n) (home_below t lid n place.0 c.requires.lanes.0 place.1) a b).1
    (inl (towards_escapes t n (λ lane. forest_in c.args.forests.now lane) lids.ensures.kept.rows (length t.switches) (home t lid n) a b (omega arith) towards_here)))

pub loop-lid-preserved : goal.loop-lid-preserved
loop-lid-preserved g c =
    let t = c.args.fabric.now in
    let n = length c.args.used.now in
    let F = λ (lane : ℕ). forest_in c.args.forests.now lane in
    let kept = c.args.kept.now in
    let lids = c.lids_in_use-lid-items in
    let k = c.loop-lid.lid-index in
    let lid = (slice_index_or lids.result.now k (record { 0 = 0 })).0 in
    let low : k < length (lids_of t) = omega (arith, as_many lids.result.now (lids_of t) lids.ensures.lids, c.loop-lid-test.true) in
    let at : slice_index_or (lids_of t) k 0 ≡ lid = number_at lids.result.now (lids_of t) lids.ensures.lids k (record { 0 = 0 }) 0 c.loop-lid-test.true in
    let in_use : Contains (lids_of t) lid = contains_lid lids.result.now (lids_of t) lids.ensures.lids k (record { 0 = 0 }) c.loop-lid-test.true in
    let rise : IsStrictlyIncreasing (lids_of t) = (lids_are t lids.ensures.kept).ascending in
    let was = c.loop-lid.invariant in
    let same : length c.loop-lid.used ≡ n = same_length c.args.used.now c.loop-lid.used was.channels in
    let place = has_place t lid in_use in
    let below : home t lid n < n = home_below t lid n place.0 c.requires.lanes.0 place.1 in
    elim c.if-not-contains.branch [
      | then-not-contains w ↦
          (let none : ¬ Contains kept lid = λ has. false≢true (sym w.if-not-contains.true ∙ c.contains.ensures ∙ among kept lid has) in
          let laid_in : IsLaidIn t (λ d. weight_of c.loop-lid.weights d) (forest_in c.args.forests.now (home t lid n)) lid (home t lid n) c.loop-lid.used w.lay_tree.new.used w.lay_tree.new.tree
          = subst (λ m. IsLaidIn t (λ d. weight_of c.loop-lid.weights d) (forest_in c.args.forests.now (home t lid m)) lid (home t lid m) c.loop-lid.used w.lay_tree.new.used w.lay_tree.new.tree) same w.lay_tree.ensures.laid in
          rw (w.used-is, w.tables-is, w.weights-is, w.tree-is, w.room-is) (record {
            tree = (laid_toward t lid laid_in.place lids.ensures.kept.rows laid_in.in_use _ _ (home t lid n) (forest_in c.args.forests.now (home t lid n)) w.lay_tree.new.tree (c.requires.forests.right (home t lid n) below) laid_in.laid).is_tree.each_switch;
            room = w.lay_tree.ensures.room ∙ was.room;
            channels = laid_in.changes.channels ∙ was.channels;
            room_left = room_goes_on t n kept k lid low at none c.loop-lid.used w.lay_tree.new.used laid_in.changes laid_in.spare was.room_left;
            laid = λ old laid x. laid_goes_on t n old kept F rise k lid c.loop-lid.tables w.take_tree.new.tables c.loop-lid.weights w.take_tree.new.weights c.loop-lid.used w.lay_tree.new.used w.lay_tree.new.tree
                lids.ensures.kept.rows low at (in_use, none) below laid_in w.take_tree.ensures.entries w.take_tree.ensures.weights (was.laid old laid x);
          }))
      | else-not-contains w ↦
          (let has : Contains kept lid = found kept lid (sym c.contains.ensures ∙ w.if-not-contains.false) in
          rw (w.used-is, w.tables-is, w.weights-is, w.tree-is, w.room-is) (record {
            tree = was.tree;
            room = was.room;
            channels = was.channels;
            room_left = room_passes t n kept k lid low at c.loop-lid.used was.room_left;
            laid = λ old laid x. kept_passes t n old kept F rise k lid c.loop-lid.tables c.loop-lid.weights c.loop-lid.used low at has (was.laid old laid x);
          }))
    ]

pub returns-clause-laid : goal.returns-clause-laid
returns-clause-laid g c = λ old laid x.
    let t = c.args.fabric.now in
    let lids = c.lids_in_use-lid-items in
    let rise : IsStrictlyIncreasing (lids_of t) = (lids_are t lids.ensures.kept).ascending in
    let last = c.loop-lid.invariant.laid old laid x in
    (last.0, last.1, all_before (lids_of t) rise c.loop-lid.lid-index last.0 (omega (arith, c.loop-lid-test.false, as_many lids.result.now (lids_of t) lids.ensures.lids)) last.2, last.3)
