use Rattle.std.proofs.Common.{◌≡◌, ℕ, ◌+◌, ◌<◌, List, [], ◌∷◌, ◌++◌, length, sym, ◌∙◌, ap, subst, refl, arith}
use Rattle.std.proofs.lemmas.Bool.{both_ways}
use Rattle.std.proofs.lemmas.List.{length-set, length_push}
use Rattle.fab_graph.specs.Rings.{ReturnsByLeast}
use Rattle.fab_rings.specs.Nearness.{near_of}
use Rattle.fab_dfsssp.specs.CountedEdges.{IsCounted}
use Rattle.fab_dfsssp.proofs.KeptNear.{AreOnWay, way_begins, last_on_way, ring_goes_on, ring_ends, ring_kept, ring_numbered, numbers_less, ring_goes_back, ring_is_none, numbered_low}
use Rattle.fab_dfsssp.proofs.ring_search.ring_along.Goals as goal

pub loop-node-init : goal.loop-node-init
loop-node-init c =
    let e = c.args.edges.now in
    let near = c.args.near.now in
    let around = near_of near c.args.first in
    let is : c.in_ok-ring.ring.items ≡ c.args.first ∷ [] = c.in_ok-ring.ensures.items in
    record {
      each = c.requires.each;
      numbers = c.requires.kept.numbers;
      way = subst (λ (ns : List ℕ). AreOnWay (λ a b. IsCounted e a b) c.args.first around near ns) (sym is) (way_begins (λ a b. IsCounted e a b) c.args.first around near refl (omega (arith, c.if-near-first-eq0.false)));
      none = λ empty. absurd (omega (arith, ap (λ (ns : List ℕ). length ns) (sym is ∙ empty)));
    }

pub returns-then-leads_back-clause-ring : goal.returns-then-leads_back-clause-ring
returns-then-leads_back-clause-ring c =
    let e = c.args.edges.now in
    let i = c.loop-node.invariant in
    let ring : (rest : List ℕ) × (c.pop.new.self.items ++ c.in-Some.node ∷ [] ≡ c.args.first ∷ rest) × ReturnsByLeast (λ a b. IsCounted e a b) c.args.first (c.args.first ∷ rest) =
    ring_ends e c.requires.whole c.args.first (near_of c.args.near.now c.args.first) c.loop-node.near c.requires.kept.no_shorter i.numbers c.loop-node.ring.items c.pop.new.self.items c.in-Some.node c.in-Some.ensures.items i.way (c.leads_back.ensures.0 c.if-leads_back.true) in
    (ring.0, c.new.ensures ∙ c.in_ok-push.ensures.items ∙ ring.1, ring.2)

pub returns-then-leads_back-clause-kept : goal.returns-then-leads_back-clause-kept
returns-then-leads_back-clause-kept c =
    let e = c.args.edges.now in
    let i = c.loop-node.invariant in
    ring_kept e c.requires.whole c.args.first (near_of c.args.near.now c.args.first) c.loop-node.near c.requires.kept.no_shorter i.numbers c.loop-node.ring.items c.pop.new.self.items c.in-Some.node c.in-Some.ensures.items i.way

pub returns-then-leads_back-clause-numbered : goal.returns-then-leads_back-clause-numbered
returns-then-leads_back-clause-numbered c = λ some.
    let e = c.args.edges.now in
    let i = c.loop-node.invariant in
    omega (arith, ring_numbered e c.requires.whole c.args.first (near_of c.args.near.now c.args.first) c.loop-node.near c.requires.kept.no_shorter i.numbers c.loop-node.ring.items c.pop.new.self.items c.in-Some.node c.in-Some.ensures.items i.way, c.if-near-first-eq0.false)

pub loop-node-preserved-in-Continue-branch-4 : goal.loop-node-preserved-in-Continue-branch-4
loop-node-preserved-in-Continue-branch-4 c =
    let e = c.args.edges.now in
    let i = c.loop-node.invariant in
    let front = c.pop.new.self.items ++ c.in-Some.node ∷ [] in
    let head = c.in-Some-nearer_head.head in
    let is : c.push-in-Some-nearer_head-2.new.self.items ≡ front ++ head ∷ [] = c.in_ok-push-in-Some-nearer_head-2.ensures.items ∙ ap (λ (ns : List ℕ). ns ++ head ∷ []) c.in_ok-push-in-Some-nearer_head.ensures.items in
    record {
      each = i.each;
      numbers = i.numbers;
      way = subst (λ (ns : List ℕ). AreOnWay (λ a b. IsCounted e a b) c.args.first (near_of c.args.near.now c.args.first) c.loop-node.near ns) (sym is)
          (ring_goes_on e c.requires.whole c.args.first (near_of c.args.near.now c.args.first) c.loop-node.near c.requires.kept.no_shorter i.numbers c.loop-node.ring.items c.pop.new.self.items c.in-Some.node c.in-Some.ensures.items i.way head c.in-Some-nearer_head.ensures);
      none = λ empty. absurd (omega (arith, ap (λ (ns : List ℕ). length ns) (sym is ∙ empty), length_push front head));
    }

pub loop-node-preserved : goal.loop-node-preserved
loop-node-preserved c =
    let e = c.args.edges.now in
    let i = c.loop-node.invariant in
    let not_back : ¬ ((near_of c.loop-node.near c.in-Some.node ≡ 1) × IsCounted e c.in-Some.node c.args.first) = λ back. both_ways c.leads_back.result c.if-leads_back.false (c.leads_back.ensures.1 back) in
    let low : c.in-Some.node < length c.loop-node.near = numbered_low c.loop-node.near c.in-Some.node (last_on_way e c.requires.whole c.args.first (near_of c.args.near.now c.args.first) c.loop-node.near c.requires.kept.no_shorter i.numbers c.loop-node.ring.items c.pop.new.self.items c.in-Some.node c.in-Some.ensures.items i.way).some in
    record {
      each = length-set c.loop-node.near c.in-Some.node 0 ∙ i.each;
      numbers = numbers_less e c.requires.whole c.args.first (near_of c.args.near.now c.args.first) c.loop-node.near c.requires.kept.no_shorter i.numbers c.loop-node.ring.items c.pop.new.self.items c.in-Some.node c.in-Some.ensures.items i.way not_back c.in-None.ensures;
      way = ring_goes_back e c.requires.whole c.args.first (near_of c.args.near.now c.args.first) c.loop-node.near c.requires.kept.no_shorter i.numbers c.loop-node.ring.items c.pop.new.self.items c.in-Some.node c.in-Some.ensures.items i.way not_back c.in-None.ensures;
      none = ring_is_none e c.requires.whole c.args.first (near_of c.args.near.now c.args.first) c.loop-node.near c.requires.kept.no_shorter i.numbers c.loop-node.ring.items c.pop.new.self.items c.in-Some.node c.in-Some.ensures.items i.way not_back c.in-None.ensures low;
    }
