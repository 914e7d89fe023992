use Rattle.std.proofs.Common.{◌≡◌, ◌∙◌, ◌+◌, ◌*◌, ◌<◌, ℕ, List, [], ◌∷◌, length, Option, None, Some, slice_index_or, replicate, set, IsPermutation, ap, sym, subst, arith, rules, heap_items}
use Rattle.std.proofs.lemmas.List.{get_or_read, with_items_is}
use Rattle.fab_sssp.specs.WeightTables.{weight_of}
use Rattle.fab_sssp.specs.Nearing.{Offer, offer_of, AreReached, IsNearing, IsAnyChannel, LeadsElsewhere}
use Rattle.fab_sssp.proofs.Walks.Nearing.{is_settled, is_open, nearest_first, search_begins, nothing_kept, taken_low, passed_over, kept_without, settles, kept_still, one_less_open, search_ends}
use Rattle.fab_sssp.proofs.Walks.Settled.{settled_distances}
use Rattle.fab_sssp.proofs.search.distances.Goals as goal

pub loop-distance-init : goal.loop-distance-init
loop-distance-init c =
    let t = c.args.fabric.now in
    let W : ℕ → ℕ = λ k. weight_of c.args.weights.now k in
    let offers = heap_items c.push.new.self in
    let pushed : IsPermutation (offer_of 0 c.args.to.0 ∷ []) offers = subst (λ os. IsPermutation (offer_of 0 c.args.to.0 ∷ os) offers) c.new-offers.ensures.items c.in_ok-push.ensures.permutation in
    let none : c.in_ok-found.found.items ≡ replicate c.switches-switches.result None = search rules in
    let no_least : c.in_ok-least.least.items ≡ replicate c.switches-switches.result None = search rules in
    let as_many : replicate c.switches-switches.result None ≡ replicate (length t.switches) None = ap (λ n. replicate n None) c.switches-switches.ensures.count in
    let nothing : List (Option ℕ) = replicate (length t.switches) None in
    record {
      heap = c.in_ok-push.ensures.heap_order c.new-offers.ensures.heap_order;
      near = subst (λ (found : List (Option ℕ)). IsNearing t W c.args.to.0 found offers IsAnyChannel) (sym (none ∙ as_many)) (search_begins t W c.args.to.0 c.requires.to offers pushed);
      reached = subst (λ (found : List (Option ℕ)). AreReached t found offers c.in_ok-least.least.items) (sym (none ∙ as_many))
          (subst (λ (least : List (Option ℕ)). AreReached t nothing offers least) (sym (no_least ∙ as_many)) (nothing_kept t W c.args.to.0 c.requires.to offers pushed));
    }

pub loop-distance-smaller : goal.loop-distance-smaller
loop-distance-smaller c =
    let t = c.args.fabric.now in
    let W : ℕ → ℕ = λ k. weight_of c.args.weights.now k in
    let x : Offer = c.in-Some.field-0 in
    let found = c.loop-distance.found.items in
    let near = c.loop-distance.invariant.near in
    let popped = c.in-Some.ensures.permutation in
    let low : x.0.1 < length t.switches = taken_low t W c.args.to.0 found (heap_items c.loop-distance.offers) (heap_items c.pop.new.self) near x.0.0 x.0.1 popped in
    let none : slice_index_or found x.0.1 None ≡ None =
    sym (get_or_read found x.0.1 c.index.result.now (omega (arith, low, near.each_switch)) c.index.ensures None) ∙ is_open c.index.result.now (sym c.is_some.ensures ∙ c.if-is_some.false) in
    omega (
      arith,
      ap (λ n. n * (length t.channels + 1)) (one_less_open t W c.args.to.0 found (heap_items c.loop-distance.offers) (heap_items c.pop.new.self) near x.0.0 x.0.1 popped
          (nearest_first x (heap_items c.pop.new.self) (c.in-Some.ensures.below_top c.loop-distance.invariant.heap)) none),
      c.in_ok-offer.ensures.few,
      c.in-Some.ensures.len,
    )

pub offer-requires-clause-reached : goal.offer-requires-clause-reached
offer-requires-clause-reached c =
    let t = c.args.fabric.now in
    let W : ℕ → ℕ = λ k. weight_of c.args.weights.now k in
    let x : Offer = c.in-Some.field-0 in
    let found = c.loop-distance.found.items in
    let near = c.loop-distance.invariant.near in
    let popped = c.in-Some.ensures.permutation in
    let rest = heap_items c.pop.new.self in
    let low : x.0.1 < length t.switches = taken_low t W c.args.to.0 found (heap_items c.loop-distance.offers) rest near x.0.0 x.0.1 popped in
    let none : slice_index_or found x.0.1 None ≡ None =
    sym (get_or_read found x.0.1 c.index.result.now (omega (arith, low, near.each_switch)) c.index.ensures None) ∙ is_open c.index.result.now (sym c.is_some.ensures ∙ c.if-is_some.false) in
    rw (c.deref.ensures.value, c.deref_mut.ensures.value)
    (kept_still t W c.args.to.0 found (heap_items c.loop-distance.offers) rest near x.0.0 x.0.1 popped (nearest_first x rest (c.in-Some.ensures.below_top c.loop-distance.invariant.heap)) none c.loop-distance.least.items
    c.loop-distance.invariant.reached)

pub loop-distance-preserved : goal.loop-distance-preserved
loop-distance-preserved c =
    let t = c.args.fabric.now in
    let W : ℕ → ℕ = λ k. weight_of c.args.weights.now k in
    let x : Offer = c.in-Some.field-0 in
    let found = c.loop-distance.found.items in
    let near = c.loop-distance.invariant.near in
    let popped = c.in-Some.ensures.permutation in
    let rest = heap_items c.pop.new.self in
    let low : x.0.1 < length t.switches = taken_low t W c.args.to.0 found (heap_items c.loop-distance.offers) rest near x.0.0 x.0.1 popped in
    let none : slice_index_or found x.0.1 None ≡ None =
    sym (get_or_read found x.0.1 c.index.result.now (omega (arith, low, near.each_switch)) c.index.ensures None) ∙ is_open c.index.result.now (sym c.is_some.ensures ∙ c.if-is_some.false) in
    let after : IsNearing t W c.args.to.0 (set found x.0.1 (Some x.0.0)) rest (LeadsElsewhere t x.0.1) =
    settles t W c.args.to.0 found (heap_items c.loop-distance.offers) rest near x.0.0 x.0.1 popped (nearest_first x rest (c.in-Some.ensures.below_top c.loop-distance.invariant.heap)) none in
    let P : List (Option ℕ) → Type 0 = λ fs. IsNearing t W c.args.to.0 fs rest (LeadsElsewhere t x.0.1) → IsNearing t W c.args.to.0 fs (heap_items c.offer.new.offers) IsAnyChannel in
    record {
      heap = c.in_ok-offer.ensures.heap;
      near = subst P c.deref.ensures.value (c.in_ok-offer.ensures.offered c.args.to.0) after;
      reached = rw (with_items_is c.loop-distance.least c.offer.new.least (omega (arith, c.in_ok-offer.ensures.reached.each_switch, c.loop-distance.invariant.reached.each_switch, c.loop-distance.least.ok.0)))
          (subst (λ fs. AreReached t fs (heap_items c.offer.new.offers) c.offer.new.least) c.deref.ensures.value c.in_ok-offer.ensures.reached);
    }

pub loop-distance-preserved-then-is_some : goal.loop-distance-preserved-then-is_some
loop-distance-preserved-then-is_some c =
    let t = c.args.fabric.now in
    let W : ℕ → ℕ = λ k. weight_of c.args.weights.now k in
    let x : Offer = c.in-Some.field-0 in
    let found = c.loop-distance.found.items in
    let near = c.loop-distance.invariant.near in
    let popped = c.in-Some.ensures.permutation in
    let rest = heap_items c.pop.new.self in
    let low : x.0.1 < length t.switches = taken_low t W c.args.to.0 found (heap_items c.loop-distance.offers) rest near x.0.0 x.0.1 popped in
    let known : (n : ℕ) × (c.index.result.now ≡ Some n) = is_settled c.index.result.now (sym c.is_some.ensures ∙ c.if-is_some.true) in
    record {
      heap = (c.in-Some.ensures.heap_order c.loop-distance.invariant.heap).0;
      near = passed_over t W c.args.to.0 found (heap_items c.loop-distance.offers) rest near x.0.0 x.0.1 popped known.0
          (sym (get_or_read found x.0.1 c.index.result.now (omega (arith, low, near.each_switch)) c.index.ensures None) ∙ known.1);
      reached = kept_without t W c.args.to.0 found (heap_items c.loop-distance.offers) rest near x.0.0 x.0.1 popped known.0
          (sym (get_or_read found x.0.1 c.index.result.now (omega (arith, low, near.each_switch)) c.index.ensures None) ∙ known.1) c.loop-distance.least.items c.loop-distance.invariant.reached;
    }

pub returns : goal.returns
returns c =
    let t = c.args.fabric.now in
    let W : ℕ → ℕ = λ k. weight_of c.args.weights.now k in
    settled_distances t W c.args.to.0 c.loop-distance.found.items
    (search_ends t W c.args.to.0 c.loop-distance.found.items (heap_items c.loop-distance.offers) c.loop-distance.invariant.near (omega (arith, c.in_default.ensures.none, c.loop-distance.offers.data.ok.0)))
