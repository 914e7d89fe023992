-- From one layer to the next.
use Rattle.std.proofs.Common.{◌≡◌, ℕ, ◌+◌, ◌<◌, ◌≤◌, List, [], ◌∷◌, length, replicate, ◌∙◌, inl, inr, arith}
use Rattle.std.specs.Prelude.{◌==◌}
use Rattle.std.proofs.lemmas.Bool.{cases_lt}
use Rattle.std.proofs.lemmas.List.{length-replicate, get_or_past, get_or_default}
use Rattle.std.proofs.lemmas.List.Sums.{count_by-le-length}
use Rattle.fab_graph.specs.Walks.{IsEdge}
use Rattle.fab_rings.specs.EdgeList.{EdgeList, IsGraph}
use Rattle.fab_rings.specs.Layers.{times, times_ready, untaken, level_of, left_of, edges_left, IsTaking, AreLayers}
use Rattle.fab_rings.proofs.Times.{counts_there, ready_now, ready_not_left}
use Rattle.fab_rings.proofs.EdgesOf.{ends_low}
use Rattle.fab_rings.proofs.Layering.EdgesLeft.{some_left, none_left}
use Rattle.fab_rings.proofs.Layering.TakingNodes.{is_ready, first_ready, first_low}
use Rattle.fab_rings.proofs.Layering.FreeNodes.{level_at_first}

module _ (g : EdgeList) (kept : IsGraph g) where
  abbrev none_taken : List ℕ
  none_taken = replicate g.nodes 0

  at_most_one : (b : ℕ) → level_of none_taken b ≤ 1
  at_most_one b = elim (cases_lt b g.nodes) [
    | inl low ↦ omega (arith, level_at_first g.nodes b low)
    | inr past ↦ omega (arith, get_or_past {X = ℕ} none_taken b 1 (omega (arith, length-replicate {A = ℕ} g.nodes 0)))
  ]

  -- an end of an edge is not taken
  end_untaken : (a b : ℕ) → IsEdge g.edges a b → (level_of none_taken a ≡ 0) × (level_of none_taken b ≡ 0)
  end_untaken a b edge = (level_at_first g.nodes a (ends_low g kept a b edge).0, level_at_first g.nodes b (ends_low g kept a b edge).1)

  pub all_untaken : untaken none_taken ≤ g.nodes
  all_untaken = omega (arith, count_by-le-length (λ (n : ℕ). n == 0) none_taken, length-replicate {A = ℕ} g.nodes 0)

  -- the nodes without predecessors are the first layer
  pub first_layer : (left layer : List ℕ) → length left ≡ g.nodes → ((b : ℕ) → left_of left b ≡ edges_left g.edges none_taken b) →
      ((b : ℕ) → times b layer ≡ times_ready (level_of none_taken b) (left_of left b)) → IsTaking g none_taken left layer [] 1
  first_layer left layer each counts ready = record {
    each_level = length-replicate {A = ℕ} g.nodes 0;
    each_left = each;
    some_layer = omega arith;
    counts = counts;
    ready = λ b. omega (arith, ready b);
    rises = λ a b edge has. absurd (omega (arith, has, (end_untaken a b edge).1));
    attained = λ b high. absurd (omega (arith, high, at_most_one b));
    low = at_most_one;
    rest_rises = λ a b h edge. absurd (omega (arith, (end_untaken a b edge).0, none_left g.edges none_taken a b (free b h) edge));
    rest_attains = λ b h high. absurd (omega arith);
    next_attains = λ b h. absurd (omega arith);
  }
    where
      free : (b : ℕ) → 0 < times b layer → edges_left g.edges none_taken b ≡ 0
      free b h = elim (cases_lt 0 (left_of left b)) [
        | inl some ↦ absurd (omega (arith, h, ready b, ready_not_left (level_of none_taken b) (left_of left b) some))
        | inr none ↦ omega (arith, counts b)
      ]

module _ (g : EdgeList) (levels left rest next : List ℕ) (layer : ℕ) where
  -- where the rest of a layer isn't empty, a node is not taken
  pub some_untaken : IsTaking g levels left rest next layer → 0 < length rest → 0 < untaken levels
  some_untaken taking some = go rest taking some
    where
      go : (ns : List ℕ) → IsTaking g levels left ns next layer → 0 < length ns → 0 < untaken levels
      go [] t h = absurd (omega arith)
      go (x ∷ ns) t h =
          let low : x < length levels = omega (arith, first_low g levels left ns next layer x t, t.each_level) in
          counts_there 0 levels (x, low, get_or_default levels x 0 1 low ∙ (first_ready g levels left ns next layer x t).0)

-- a layer that is done is followed by the next one
pub next_layer : (g : EdgeList) (levels left next : List ℕ) (layer : ℕ) → IsTaking g levels left [] next layer → IsTaking g levels left next [] (layer + 1)
next_layer g levels left next layer taking = record {
  each_level = taking.each_level;
  each_left = taking.each_left;
  some_layer = omega arith;
  counts = taking.counts;
  ready = λ b. omega (arith, taking.ready b);
  rises = taking.rises;
  attained = taking.attained;
  low = λ b. omega (arith, taking.low b);
  rest_rises = λ a b h edge. (
    none_left g.edges levels a b (omega (arith, taking.counts b, (is_ready g levels left [] next layer taking b (omega (arith, h))).1)) edge,
    omega (arith, taking.low a),
  );
  rest_attains = λ b h high. let from : (a : ℕ) × IsEdge g.edges a b × (level_of levels a ≡ layer) = taking.next_attains b h in (from.0, from.1, omega (arith, from.2));
  next_attains = λ b h. absurd (omega arith);
}

-- where no node is ready, the layers are done
pub layers_done : (g : EdgeList) (levels left : List ℕ) (layer : ℕ) → IsTaking g levels left [] [] layer → AreLayers g levels
layers_done g levels left layer taking = record { each = taking.each_level; rises = taking.rises; attained = taking.attained; others = others }
  where
    others : (b : ℕ) → level_of levels b ≡ 0 → (a : ℕ) × IsEdge g.edges a b × (level_of levels a ≡ 0)
    others b none = elim (cases_lt 0 (left_of left b)) [
      | inl some ↦ some_left g.edges levels b (omega (arith, taking.counts b))
      | inr gone ↦ absurd (omega (arith, taking.ready b, ready_now (level_of levels b) (left_of left b) none (omega arith)))
    ]
