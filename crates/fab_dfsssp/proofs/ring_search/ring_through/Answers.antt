use Rattle.std.proofs.Common.{◌≡◌, ℕ, ◌<◌, List, length, sym, ◌∙◌, ap, subst, arith}
use Rattle.std.proofs.lemmas.List.{with_items_is}
use Rattle.fab_graph.specs.Walks.{Walk}
use Rattle.fab_rings.specs.Nearness.{near_of}
use Rattle.fab_dfsssp.specs.CountedEdges.{IsCounted}
use Rattle.fab_dfsssp.specs.KeptNear.{AreKeptNear}
use Rattle.fab_dfsssp.proofs.Around.{near_each, no_ring}
use Rattle.fab_dfsssp.proofs.KeptNear.{kept_search, search_closes, found_first, searched_first, holds_ok}
use Rattle.fab_dfsssp.proofs.ring_search.ring_through.Goals as goal

pub ring_along-requires-clause-kept : goal.ring_along-requires-clause-kept
ring_along-requires-clause-kept c = subst (λ (ns : List ℕ). AreKeptNear (λ a b. IsCounted c.args.edges.now a b) c.args.first ns) (sym c.deref_mut.ensures.value) c.requires.kept

pub returns-then-is_some-clause-ring : goal.returns-then-is_some-clause-ring
returns-then-is_some-clause-ring c =
    let e = c.args.edges.now in
    let near = c.deref_mut.result.now in
    found_first (λ (a b : ℕ). IsCounted e a b) c.args.first (0 < near_of near c.args.first → ¬ Walk (λ (a b : ℕ). IsCounted e a b) (near_of near c.args.first) c.args.first c.args.first) c.in_ok-kept.kept c.requires.before
    (sym c.is_some.ensures ∙ c.if-is_some.true) c.in_ok-kept.ensures.ring

pub returns-then-is_some-clause-kept : goal.returns-then-is_some-clause-kept
returns-then-is_some-clause-kept c =
    let new = c.ring_along.new.near in
    let each : length new ≡ length c.args.near.now.items = c.ring_along.auto.near ∙ ap (λ (ns : List ℕ). length ns) c.deref_mut.ensures.value in
    let whole = with_items_is c.args.near.now new (omega (arith, each, c.args.near.now.ok.0)) in
    rw whole c.in_ok-kept.ensures.kept

pub ring_along-requires-2-clause-each : goal.ring_along-requires-2-clause-each
ring_along-requires-2-clause-each c =
    ap (λ (ns : List ℕ). length ns) c.deref_mut-2.ensures.value ∙ near_each c.args.edges.now c.requires.whole c.args.first c.in_ok-near.field-0.items c.in_ok-near.ensures

pub ring_along-requires-2-clause-kept : goal.ring_along-requires-2-clause-kept
ring_along-requires-2-clause-kept c =
    subst (λ (ns : List ℕ). AreKeptNear (λ a b. IsCounted c.args.edges.now a b) c.args.first ns) (sym c.deref_mut-2.ensures.value) (kept_search c.args.edges.now c.requires.whole c.args.first c.in_ok-near.field-0.items c.in_ok-near.ensures)

pub returns-clause-ring : goal.returns-clause-ring
returns-clause-ring c =
    let e = c.args.edges.now in
    let near = c.in_ok-near.field-0.items in
    searched_first (λ (a b : ℕ). IsCounted e a b) c.args.first (near_of near c.args.first) c.ring_along-2.result c.requires.before (no_ring e c.requires.whole c.args.first near c.in_ok-near.ensures)
    (search_closes e c.requires.whole c.args.first near c.in_ok-near.ensures) (rw c.deref_mut-2.ensures.value at c.ring_along-2.ensures.ring)

pub returns-clause-each : goal.returns-clause-each
returns-clause-each c =
    let new = c.ring_along-2.new.near in
    let near = c.in_ok-near.field-0 in
    let each : length new ≡ length near.items = c.ring_along-2.auto.near ∙ ap (λ (ns : List ℕ). length ns) c.deref_mut-2.ensures.value in
    let whole = with_items_is near new (omega (arith, each, near.ok.0)) in
    rw whole (holds_ok c.ring_along-2.result (length new ≡ length c.args.edges.now.heads) (each ∙ near_each c.args.edges.now c.requires.whole c.args.first near.items c.in_ok-near.ensures))

pub returns-clause-kept : goal.returns-clause-kept
returns-clause-kept c =
    let new = c.ring_along-2.new.near in
    let near = c.in_ok-near.field-0 in
    let each : length new ≡ length near.items = c.ring_along-2.auto.near ∙ ap (λ (ns : List ℕ). length ns) c.deref_mut-2.ensures.value in
    let whole = with_items_is near new (omega (arith, each, near.ok.0)) in
    rw whole c.ring_along-2.ensures.kept
