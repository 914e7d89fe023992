use Rattle.std.proofs.Common.{◌∙◌, ap, not, ℕ, ◌+◌, ◌<◌, ◌≤◌, length, is_some, None, slice_index_or, sym, subst, arith, heap_items}
use Rattle.std.proofs.lemmas.List.Sums.{count_by-le-length}
use Rattle.fab_model.specs.Topology.{first_channel}
use Rattle.fab_sssp.specs.WeightTables.{weight_of}
use Rattle.fab_sssp.specs.Nearing.{IsNearing, LeadsElsewhereOrBefore}
use Rattle.fab_sssp.proofs.Walks.Nearing.{is_settled, offering_begins, offering_ends, behind_low, skips, offers_more, keeps_more}
use Rattle.fab_sssp.proofs.Raising.WeightBounds.{weight_read, read_within}
use Rattle.fab_sssp.proofs.search.offer.Goals as goal
use Rattle.fab_sssp.proofs.search.offer.Goals.{then-is_none+in_ok-offer_to, else-is_none}

pub loop-leaving-init : goal.loop-leaving-init
loop-leaving-init c = record {
  heap = c.requires.heap;
  few = omega arith;
  reached = c.requires.reached;
  offered = λ to near.
      let t = c.args.fabric.now in
      let W : ℕ → ℕ = λ k. weight_of c.args.weights.now k in
      let P : ℕ → Type 0 = λ b. IsNearing t W to c.args.found.now (heap_items c.args.offers.now) (LeadsElsewhereOrBefore t c.args.settled.0 b) in
      subst P (sym c.leaves-first.ensures.first) (offering_begins t c.requires.fabric.rows W to c.args.found.now c.args.settled.0 c.args.distance (heap_items c.args.offers.now) near);
}

pub offer_to-requires-clause-s : goal.offer_to-requires-clause-s
offer_to-requires-clause-s c =
    let t = c.args.fabric.now in
    omega (
      arith,
      c.loop-leaving.invariant.reached.each_switch,
      behind_low t c.requires.fabric.rows (λ k. weight_of c.args.weights.now k) 0 c.args.found.now c.args.settled.0 c.args.distance c.requires.settled c.requires.farthest c.loop-leaving.leaving
          (omega (arith, c.loop-leaving-test.true, c.leaves-first.ensures.within)) (omega (arith, c.loop-leaving.auto.leaving, c.leaves-first.ensures.first)) (omega (arith, c.loop-leaving-test.true, c.leaves-first.ensures.past))
          c.tip-from.result c.tip-from.ensures,
    )

pub bounds-found-from : goal.bounds-found-from
bounds-found-from c =
    let t = c.args.fabric.now in
    omega (
      arith,
      c.requires.found,
      behind_low t c.requires.fabric.rows (λ k. weight_of c.args.weights.now k) 0 c.args.found.now c.args.settled.0 c.args.distance c.requires.settled c.requires.farthest c.loop-leaving.leaving
          (omega (arith, c.loop-leaving-test.true, c.leaves-first.ensures.within)) (omega (arith, c.loop-leaving.auto.leaving, c.leaves-first.ensures.first)) (omega (arith, c.loop-leaving-test.true, c.leaves-first.ensures.past))
          c.tip-from.result c.tip-from.ensures,
    )

pub overflow_add-of : goal.overflow_add-of
overflow_add-of c = omega (
  arith,
  read_within c.args.weights.now c.reverse-channel.result.0 c.of.result c.of.ensures.kept c.of.ensures.weight,
  c.requires.small,
  count_by-le-length is_some c.args.found.now,
  c.requires.found,
  c.requires.fabric.rows.switch_count,
)

pub loop-leaving-preserved : goal.loop-leaving-preserved
loop-leaving-preserved c =
    let t = c.args.fabric.now in
    let W : ℕ → ℕ = λ k. weight_of c.args.weights.now k in
    let y = c.args.settled.0 in
    let l = c.loop-leaving.leaving in
    let low : l < length t.channels = omega (arith, c.loop-leaving-test.true, c.leaves-first.ensures.within) in
    let from : first_channel t y ≤ l = omega (arith, c.loop-leaving.auto.leaving, c.leaves-first.ensures.first) in
    let past : l < first_channel t (y + 1) = omega (arith, c.loop-leaving-test.true, c.leaves-first.ensures.past) in
    elim c.if-is_none.branch [
      | then-is_none+in_ok-offer_to w ↦
          (let weighs = weight_read c.args.weights.now w.reverse-channel.result.0 w.of.result w.of.ensures.weight in
          let few = read_within c.args.weights.now w.reverse-channel.result.0 w.of.result w.of.ensures.kept w.of.ensures.weight in
          rw (w.offers-is, w.least-is) (record {
            heap = w.in_ok-offer_to.ensures.heap;
            few = omega (arith, w.in_ok-offer_to.ensures.few, c.loop-leaving.invariant.few);
            reached = keeps_more t c.requires.fabric.rows W 0 c.args.found.now y c.args.distance c.requires.settled c.requires.farthest l low from past c.tip-from.result c.tip-from.ensures
                w.reverse-channel.result.0 w.of.result w.reverse-channel.ensures.reverse weighs w.of.ensures.positive few c.requires.small (heap_items c.loop-leaving.offers) (heap_items w.offer_to.new.offers)
                c.loop-leaving.least w.offer_to.new.least c.loop-leaving.invariant.reached w.in_ok-offer_to.ensures.offer;
            offered = λ to near. offers_more t c.requires.fabric.rows W to c.args.found.now y c.args.distance c.requires.settled c.requires.farthest l low from past c.tip-from.result c.tip-from.ensures
                w.reverse-channel.result.0 w.of.result w.reverse-channel.ensures.reverse weighs w.of.ensures.positive few c.requires.small (heap_items c.loop-leaving.offers) (heap_items w.offer_to.new.offers)
                c.loop-leaving.least w.offer_to.new.least c.loop-leaving.invariant.reached w.in_ok-offer_to.ensures.offer (c.loop-leaving.invariant.offered to near);
          }))
      | else-is_none w ↦
          (let known = is_settled (slice_index_or c.args.found.now c.tip-from.result.0 None) (c.is_none.ensures ∙ ap not w.if-is_none.false) in
          rw (w.offers-is, w.least-is) (record {
            heap = c.loop-leaving.invariant.heap;
            few = omega (arith, c.loop-leaving.invariant.few);
            reached = c.loop-leaving.invariant.reached;
            offered = λ to near. skips t c.requires.fabric.rows W to c.args.found.now y c.args.distance c.requires.settled c.requires.farthest l low from past c.tip-from.result c.tip-from.ensures
                (heap_items c.loop-leaving.offers) known.0 known.1 (c.loop-leaving.invariant.offered to near);
          }))
    ]

pub returns-clause-offered : goal.returns-clause-offered
returns-clause-offered c = λ to near.
    let t = c.args.fabric.now in
    offering_ends t c.requires.fabric.rows (λ k. weight_of c.args.weights.now k) to c.args.found.now c.args.settled.0 c.args.distance (heap_items c.loop-leaving.offers) c.loop-leaving.leaving
    (omega (arith, c.loop-leaving-test.false, c.leaves-first.ensures.past)) (c.loop-leaving.invariant.offered to near)
