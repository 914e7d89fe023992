use Rattle.std.proofs.Common.{get_or, ◌≡◌, ◌≢◌, ◌<◌, ◌≤◌, ◌+◌, ◌*◌, ℕ, suc, List, [], ◌∷◌, ◌++◌, true, false, length, slice_index_or, refl, sym, ◌∙◌, ap, subst, arith, length-append}
use Rattle.std.specs.Prelude.{Contains}
use Rattle.std.specs.List.Sorted.{IsStrictlyIncreasing}
use Rattle.std.proofs.lemmas.Nat.{row_fits}
use Rattle.std.proofs.lemmas.List.{get_or_default, length-replicate}
use Rattle.fab_model.specs.Topology.{Topology, lids_of}
use Rattle.fab_model.proofs.LidsInUse.{as_many, number_at, contains_lid}
use Rattle.fab_tables.proofs.Joined.Ascending.{lids_are}
use Rattle.fab_nue.specs.Arenas.{AreShort}
use Rattle.fab_nue.specs.OldRoutes.{IsKeptOrNot}
use Rattle.fab_nue.proofs.Lanes.LaneLists.{same_length}
use Rattle.fab_nue.proofs.Laying.LidPlaces.{has_place}
use Rattle.fab_nue.proofs.Laying.LayingLoop.{between_begins, between_on, none_between, all_before, next_behind, few_lids}
use Rattle.fab_nue.proofs.Keeping.RouteTrees.{route_toward}
use Rattle.fab_nue.proofs.Keeping.KeepingLoop.{all_decided, decided_begins, taken_begins, kept_more, kept_no_more, taken_more, tried_short, still_below}
use Rattle.fab_nue.proofs.kept_lids.keep_lids.Goals as goal
use Rattle.fab_nue.proofs.kept_lids.keep_lids.Goals.{then-branch+in_ok-push, else-branch}

pub loop-lid-init : goal.loop-lid-init
loop-lid-init g c =
    let t = c.args.fabric.now in
    let rise : IsStrictlyIncreasing (lids_of t) = (lids_are t c.lids_in_use-lid-items.ensures.kept).ascending in
    rw (c.new-kept.ensures, c.requires.weights) (record {
      whole = ap length c.in_ok-whole.ensures ∙ length-replicate (length t.switches) _;
      part = ap length c.in_ok-part.ensures ∙ length-replicate (length t.switches) _;
      channels = refl;
      short = (let same : length t.switches ≡ length t.switches + 0 = omega arith in subst (λ m. AreShort (m * length t.switches) c.args.used.now) same c.requires.short);
      few = omega arith;
      decided = (0, between_begins (lids_of t) rise, (λ x has. absurd (omega (arith, has.1))), decided_begins t (length c.args.used.now) c.args.old.now c.args.used.now);
      taken = taken_begins t c.args.old.now c.args.tables.now c.requires.tables;
    })

pub take_tree-requires-clause-tree : goal.take_tree-requires-clause-tree
take_tree-requires-clause-tree g c =
    let t = c.args.fabric.now in
    let lids = c.lids_in_use-lid-items in
    let k = c.loop-lid.lid-index in
    let lid = (slice_index_or lids.result.now k (record { 0 = 0 })).0 in
    let in_use : Contains (lids_of t) lid = contains_lid lids.result.now (lids_of t) lids.ensures.lids k (record { 0 = 0 }) c.loop-lid-test.true in
    let place = has_place t lid in_use in
    route_toward t c.args.old.now.tables lid c.keep.new.whole lids.ensures.kept.rows (c.in_ok-keep.ensures.kept.tree c.if-branch.true) place.0 place.1

pub push-requires : goal.push-requires
push-requires g c = λ k d low.
    let t = c.args.fabric.now in
    let lids = c.lids_in_use-lid-items in
    let i = c.loop-lid.lid-index in
    let lid = (slice_index_or lids.result.now i (record { 0 = 0 })).0 in
    let kept = c.loop-lid.kept in
    let here : i < length (lids_of t) = omega (arith, as_many lids.result.now (lids_of t) lids.ensures.lids, c.loop-lid-test.true) in
    let at : slice_index_or (lids_of t) i 0 ≡ lid = number_at lids.result.now (lids_of t) lids.ensures.lids i (record { 0 = 0 }) 0 c.loop-lid-test.true in
    let so_far = c.loop-lid.invariant.decided in
    omega (arith, so_far.2 (get_or kept k d) (k, low, get_or_default kept k (get_or kept k d) d low), next_behind (lids_of t) (lids_are t lids.ensures.kept).ascending i so_far.0 here so_far.1, at)

pub returns-clause-kept : goal.returns-clause-kept
returns-clause-kept g c =
    let t = c.args.fabric.now in
    let lids = c.lids_in_use-lid-items in
    let rise : IsStrictlyIncreasing (lids_of t) = (lids_are t lids.ensures.kept).ascending in
    let so_far = c.loop-lid.invariant.decided in
    all_decided t (length c.args.used.now) c.args.old.now c.args.used.now c.loop-lid.kept so_far.0 c.loop-lid.tables c.loop-lid.weights c.loop-lid.used rise
    (all_before (lids_of t) rise c.loop-lid.lid-index so_far.0 (omega (arith, c.loop-lid-test.false, as_many lids.result.now (lids_of t) lids.ensures.lids)) so_far.1)
    so_far.3 c.loop-lid.invariant.taken

pub keep-requires-clause-short : goal.keep-requires-clause-short
keep-requires-clause-short g c = λ on_lane.
    let t = c.args.fabric.now in
    let lids = c.lids_in_use-lid-items in
    let s = length t.switches in
    let k = c.loop-lid.lid-index in
    let low : s + k < 32769 = omega (arith, as_many lids.result.now (lids_of t) lids.ensures.lids, c.loop-lid-test.true, few_lids t lids.ensures.kept.rows, lids.ensures.kept.rows.lid_count) in
    let few : s ≤ 16384 = omega (arith, lids.ensures.kept.rows.lid_count) in
    omega (arith, c.loop-lid.invariant.short on_lane, row_fits (s + k) s 32769 16384 low few)

pub loop-lid-preserved : goal.loop-lid-preserved
loop-lid-preserved g c =
    let t = c.args.fabric.now in
    let n = length c.args.used.now in
    let old = c.args.old.now in
    let start = c.args.used.now in
    let lids = c.lids_in_use-lid-items in
    let i = c.loop-lid.lid-index in
    let lid = (slice_index_or lids.result.now i (record { 0 = 0 })).0 in
    let kept = c.loop-lid.kept in
    let used = c.loop-lid.used in
    let after = c.keep.new.used in
    let tree = c.keep.new.whole in
    let here : i < length (lids_of t) = omega (arith, as_many lids.result.now (lids_of t) lids.ensures.lids, c.loop-lid-test.true) in
    let at : slice_index_or (lids_of t) i 0 ≡ lid = number_at lids.result.now (lids_of t) lids.ensures.lids i (record { 0 = 0 }) 0 c.loop-lid-test.true in
    let in_use : Contains (lids_of t) lid = contains_lid lids.result.now (lids_of t) lids.ensures.lids i (record { 0 = 0 }) c.loop-lid-test.true in
    let rise : IsStrictlyIncreasing (lids_of t) = (lids_are t lids.ensures.kept).ascending in
    let was = c.loop-lid.invariant in
    let so_far = was.decided in
    let same : length used ≡ n = same_length c.args.used.now used was.channels in
    let most : so_far.0 ≤ lid = omega (arith, next_behind (lids_of t) rise i so_far.0 here so_far.1, at) in
    let none : (other : ℕ) → so_far.0 ≤ other → other < lid → ¬ Contains (lids_of t) other = none_between (lids_of t) rise i so_far.0 lid here at so_far.1 in
    let place = has_place t lid in_use in
    elim c.if-branch.branch [
      | then-branch+in_ok-push w ↦
          (let yes : IsKeptOrNot t old lid used after tree true = subst (λ b. IsKeptOrNot t old lid used after tree b) w.if-branch.true c.in_ok-keep.ensures.kept in
          rw (w.tables-is, w.weights-is, w.kept-is, w.in_ok-push.ensures) (record {
            whole = yes.each_switch;
            part = c.in_ok-keep.ensures.part;
            channels = yes.channels ∙ was.channels;
            short = λ on_lane. omega (arith, tried_short t old lid ((length t.switches + i) * length t.switches) used after tree true yes was.short on_lane);
            few = omega (arith, was.few, length-append kept (lid ∷ []));
            decided = (
              suc lid,
              between_on (lids_of t) rise i so_far.0 lid here at so_far.1,
              still_below kept so_far.0 lid most so_far.2,
              kept_more t n old start kept so_far.0 lid used after tree same most none so_far.3 in_use yes,
            );
            taken = taken_more t old kept lid c.loop-lid.tables w.take_tree.new.tables c.loop-lid.weights w.take_tree.new.weights tree place.0 lids.ensures.kept.rows place.1
                (λ x k is. omega (arith, so_far.2 x k, most, is)) (yes.tree refl) was.taken w.take_tree.ensures.entries w.take_tree.ensures.weights;
          }))
      | else-branch w ↦
          (let no : IsKeptOrNot t old lid used after tree false = subst (λ b. IsKeptOrNot t old lid used after tree b) w.if-branch.false c.in_ok-keep.ensures.kept in
          rw (w.tables-is, w.weights-is, w.kept-is) (record {
            whole = no.each_switch;
            part = c.in_ok-keep.ensures.part;
            channels = no.channels ∙ was.channels;
            short = λ on_lane. omega (arith, tried_short t old lid ((length t.switches + i) * length t.switches) used after tree false no was.short on_lane);
            few = omega (arith, was.few);
            decided = (
              suc lid,
              between_on (lids_of t) rise i so_far.0 lid here at so_far.1,
              (λ x k. omega (arith, so_far.2 x k, most)),
              kept_no_more t n old start kept so_far.0 lid used after tree same most none so_far.3 no,
            );
            taken = was.taken;
          }))
    ]

pub returns-clause-short : goal.returns-clause-short
returns-clause-short g c = λ on_lane.
    let t = c.args.fabric.now in
    let lids = c.lids_in_use-lid-items in
    let s = length t.switches in
    let k = c.loop-lid.lid-index in
    let low : s + k < 32769 = omega (arith, as_many lids.result.now (lids_of t) lids.ensures.lids, c.loop-lid.auto.lid-index-end, few_lids t lids.ensures.kept.rows, lids.ensures.kept.rows.lid_count) in
    let few : s ≤ 16384 = omega (arith, lids.ensures.kept.rows.lid_count) in
    omega (arith, c.loop-lid.invariant.short on_lane, row_fits (s + k) s 32769 16384 low few)
