-- The first node of the rest of a layer is taken.
use Rattle.std.proofs.Common.{◌≡◌, ◌≢◌, ℕ, ◌+◌, ◌<◌, ◌≤◌, List, ◌∷◌, length, ◌∙◌, sym, ap, subst, refl, inl, inr, ◌⊎◌, arith, get_or-set_same, get_or-set_other}
use Rattle.std.specs.Prelude.{◌==◌, slice_set}
use Rattle.std.proofs.lemmas.Bool.{cases_eq, cases_lt}
use Rattle.std.proofs.lemmas.List.{length-set, get_or_past}
use Rattle.std.proofs.lemmas.List.Sums.{sum_by-set}
use Rattle.fab_graph.specs.Walks.{IsEdge}
use Rattle.fab_rings.specs.EdgeList.{EdgeList}
use Rattle.fab_rings.specs.Neighbours.{successors_of}
use Rattle.fab_rings.specs.Layers.{times, times_ready, times_freed, untaken, level_of, left_of, edges_left, IsTaking, TakesEdges}
use Rattle.fab_rings.proofs.Times.{one_if, one_if_same, none_if_other, times_front, freed_now, freed_not, freed_never, ready_now, ready_not_taken, ready_not_left}
use Rattle.fab_rings.proofs.EdgesOf.{successor_edge}
use Rattle.fab_rings.proofs.Layering.EdgesLeft.{taken_away, some_left}

turned : {m n : ℕ} → m ≢ n → n ≢ m
turned ne e = ne (sym e)

module _ (g : EdgeList) (levels left rest next : List ℕ) (layer : ℕ) (taking : IsTaking g levels left rest next layer) where
  -- what is ready is neither taken, nor are edges to it left
  pub is_ready : (b : ℕ) → 0 < times b rest + times b next → (level_of levels b ≡ 0) × (left_of left b ≡ 0)
  is_ready b h = elim (cases_lt 0 (level_of levels b)) [
    | inl taken ↦ absurd (omega (arith, taking.ready b, ready_not_taken (level_of levels b) (left_of left b) taken))
    | inr not ↦ elim (cases_lt 0 (left_of left b)) [
      | inl some ↦ absurd (omega (arith, taking.ready b, ready_not_left (level_of levels b) (left_of left b) some))
      | inr none ↦ (omega arith, omega arith)
    ]
  ]

  pub node_low : (b : ℕ) → level_of levels b ≡ 0 → b < g.nodes
  node_low b none = elim (cases_lt b (length levels)) [ inl low ↦ omega (arith, taking.each_level) | inr past ↦ absurd (omega (arith, get_or_past levels b 1 past)) ]

  -- to a node that is taken no edge is left
  pub taken_none_left : (b : ℕ) → 0 < level_of levels b → left_of left b ≡ 0
  taken_none_left b taken = elim (cases_lt 0 (left_of left b)) [
    | inl some ↦
        (let edge : (a : ℕ) × IsEdge g.edges a b × (level_of levels a ≡ 0) = some_left g.edges levels b (omega (arith, taking.counts b)) in
        absurd (omega (arith, edge.2, (taking.rises edge.0 b edge.1 taken).0)))
    | inr none ↦ omega arith
  ]

module _ (g : EdgeList) (levels left rest next : List ℕ) (layer x : ℕ) (taking : IsTaking g levels left (x ∷ rest) next layer) where
  pub first_there : 0 < times x (x ∷ rest)
  first_there = omega (arith, times_front x x rest, one_if_same x x refl)

  pub first_ready : (level_of levels x ≡ 0) × (left_of left x ≡ 0)
  first_ready = is_ready g levels left (x ∷ rest) next layer taking x (omega (arith, first_there))

  pub first_low : x < g.nodes
  first_low = node_low g levels left (x ∷ rest) next layer taking x first_ready.0

  -- its edges are left
  pub enough_left : (b : ℕ) → times b (successors_of g.edges x) ≤ left_of left b
  enough_left b = omega (arith, taking.counts b, taken_away g.edges levels x 1 b (omega (arith, first_low, taking.each_level)) first_ready.0 (omega arith))

  later : (b : ℕ) → 0 < times b rest → 0 < times b (x ∷ rest)
  later b h = omega (arith, times_front b x rest)

  once : (times x rest ≡ 0) × (times x next ≡ 0)
  once =
      let total : times x (x ∷ rest) + times x next ≡ 1 = taking.ready x ∙ ready_now (level_of levels x) (left_of left x) first_ready.0 first_ready.1 in
      (omega (arith, total, times_front x x rest, one_if_same x x refl), omega (arith, total, times_front x x rest, one_if_same x x refl))

  abbrev taken : List ℕ
  taken = slice_set levels x layer

  at_x : level_of taken x ≡ layer
  at_x = get_or-set_same levels x layer 1 (omega (arith, first_low, taking.each_level))

  elsewhere : (b : ℕ) → b ≢ x → level_of taken b ≡ level_of levels b
  elsewhere b ne = get_or-set_other levels x b layer 1 ne

  -- a node that has a level is another one
  other : (a : ℕ) → 0 < level_of levels a → a ≢ x
  other a has e = absurd (omega (arith, ap (level_of levels) e, first_ready.0, has))

  rises_in : (a b layer' : ℕ) → (0 < level_of levels a) × (level_of levels a < layer') → (0 < level_of taken a) × (level_of taken a < layer')
  rises_in a b n h = let same : level_of taken a ≡ level_of levels a = elsewhere a (other a h.0) in (omega (arith, same, h.0), omega (arith, same, h.1))

  pub fewer : untaken taken + 1 ≡ untaken levels
  fewer = omega (
    arith,
    sum_by-set (λ n. one_if (n == 0)) levels x layer 1 (omega (arith, first_low, taking.each_level)),
    one_if_same (level_of levels x) 0 first_ready.0,
    none_if_other layer 0 (λ e. absurd (omega (arith, taking.some_layer))),
  )

  module _ (new_left new_next : List ℕ) (takes : TakesEdges (successors_of g.edges x) left new_left next new_next) where
    counts : (b : ℕ) → left_of new_left b ≡ edges_left g.edges taken b
    counts b = omega (arith, taking.counts b, taken_away g.edges levels x layer b (omega (arith, first_low, taking.each_level)) first_ready.0 taking.some_layer, takes.gone b)

    ready : (b : ℕ) → times b rest + times b new_next ≡ times_ready (level_of taken b) (left_of new_left b)
    ready b = elim (cases_eq b x) [
      | inl same ↦
          subst (λ c. times c rest + times c new_next ≡ times_ready (level_of taken c) (left_of new_left c)) (sym same)
          (omega (arith, once.0, once.1, takes.freed x, none_freed, ready_not_taken (level_of taken x) (left_of new_left x) (omega (arith, at_x, taking.some_layer))))
      | inr ne ↦
          omega (arith, times_front b x rest, none_if_other x b (turned ne), takes.freed b, taking.ready b, ap (λ n. times_ready n (left_of new_left b)) (elsewhere b ne), made b (cases_lt 0 (left_of new_left b)) (cases_lt 0 (left_of left b)))
    ]
      where
        none_freed : times_freed (left_of left x) (left_of new_left x) ≡ 0
        none_freed = freed_never (left_of left x) (left_of new_left x) (omega (arith, first_ready.1))

        made : (c : ℕ) → (0 < left_of new_left c) ⊎ (left_of new_left c ≤ 0) → (0 < left_of left c) ⊎ (left_of left c ≤ 0) →
            times_ready (level_of levels c) (left_of left c) + times_freed (left_of left c) (left_of new_left c) ≡ times_ready (level_of levels c) (left_of new_left c)
        made c (inl some) old = omega (
          arith,
          freed_not (left_of left c) (left_of new_left c) some,
          ready_not_left (level_of levels c) (left_of new_left c) some,
          ready_not_left (level_of levels c) (left_of left c) (omega (arith, takes.gone c, some)),
        )
        made c (inr none) (inl before) =
            let open_still : level_of levels c ≡ 0 = elim (cases_lt 0 (level_of levels c)) [ inl has ↦ absurd (omega (arith, before, taken_none_left g levels left (x ∷ rest) next layer taking c has)) | inr not ↦ omega arith ] in
            omega (
              arith,
              freed_now (left_of left c) (left_of new_left c) (omega (arith, none)) before,
              ready_not_left (level_of levels c) (left_of left c) before,
              ready_now (level_of levels c) (left_of new_left c) open_still (omega (arith, none)),
            )
        made c (inr none) (inr before) =
            let same : left_of left c ≡ left_of new_left c = omega (arith, none, before) in
            omega (arith, freed_never (left_of left c) (left_of new_left c) before, ap (times_ready (level_of levels c)) same)

    pub takes_first : IsTaking g taken new_left rest new_next layer
    takes_first = record {
      each_level = length-set levels x layer ∙ taking.each_level;
      each_left = takes.each_left ∙ taking.each_left;
      some_layer = taking.some_layer;
      counts = counts;
      ready = ready;
      rises = rises;
      attained = attained;
      low = low;
      rest_rises = λ a b h edge. rises_in a b layer (taking.rest_rises a b (later b h) edge);
      rest_attains = rest_attains;
      next_attains = next_attains;
    }
      where
        rises : (a b : ℕ) → IsEdge g.edges a b → 0 < level_of taken b → (0 < level_of taken a) × (level_of taken a < level_of taken b)
        rises a b edge has = elim (cases_eq b x) [
          | inl same ↦
              (let old : (0 < level_of levels a) × (level_of levels a < layer) = taking.rest_rises a x first_there (subst (λ c. IsEdge g.edges a c) same edge) in
              let new : (0 < level_of taken a) × (level_of taken a < layer) = rises_in a b layer old in
              (new.0, omega (arith, new.1, ap (level_of taken) same, at_x)))
          | inr ne ↦ subst (λ n. (0 < level_of taken a) × (level_of taken a < n)) (sym (elsewhere b ne)) (rises_in a b (level_of levels b) (taking.rises a b edge (omega (arith, has, elsewhere b ne))))
        ]

        attained : (b : ℕ) → 1 < level_of taken b → (a : ℕ) × IsEdge g.edges a b × (level_of taken b ≡ level_of taken a + 1)
        attained b h = elim (cases_eq b x) [
          | inl same ↦
              (let old : (a : ℕ) × IsEdge g.edges a x × (layer ≡ level_of levels a + 1) = taking.rest_attains x first_there (omega (arith, h, ap (level_of taken) same, at_x)) in
              let has : 0 < level_of levels old.0 = (taking.rest_rises old.0 x first_there old.1).0 in
              (old.0, subst (λ c. IsEdge g.edges old.0 c) (sym same) old.1, omega (arith, ap (level_of taken) same, at_x, old.2, elsewhere old.0 (other old.0 has))))
          | inr ne ↦
              (let old : (a : ℕ) × IsEdge g.edges a b × (level_of levels b ≡ level_of levels a + 1) = taking.attained b (omega (arith, h, elsewhere b ne)) in
              let has : 0 < level_of levels old.0 = omega (arith, old.2, h, elsewhere b ne) in
              (old.0, old.1, omega (arith, elsewhere b ne, old.2, elsewhere old.0 (other old.0 has))))
        ]

        low : (b : ℕ) → level_of taken b ≤ layer
        low b = elim (cases_eq b x) [ inl same ↦ omega (arith, ap (level_of taken) same, at_x) | inr ne ↦ omega (arith, elsewhere b ne, taking.low b) ]

        rest_attains : (b : ℕ) → 0 < times b rest → 1 < layer → (a : ℕ) × IsEdge g.edges a b × (layer ≡ level_of taken a + 1)
        rest_attains b h high =
            let old : (a : ℕ) × IsEdge g.edges a b × (layer ≡ level_of levels a + 1) = taking.rest_attains b (later b h) high in
            let has : 0 < level_of levels old.0 = omega (arith, old.2, high) in
            (old.0, old.1, omega (arith, old.2, elsewhere old.0 (other old.0 has)))

        next_attains : (b : ℕ) → 0 < times b new_next → (a : ℕ) × IsEdge g.edges a b × (level_of taken a ≡ layer)
        next_attains b h = elim (cases_lt 0 (times b next)) [
          | inl before ↦
              (let old : (a : ℕ) × IsEdge g.edges a b × (level_of levels a ≡ layer) = taking.next_attains b before in
              (old.0, old.1, elsewhere old.0 (other old.0 (omega (arith, old.2, taking.some_layer))) ∙ old.2))
          | inr none ↦ (x, successor_edge g.edges x b (new_edge b h none), at_x)
        ]
          where
            new_edge : (c : ℕ) → 0 < times c new_next → times c next ≤ 0 → 0 < times c (successors_of g.edges x)
            new_edge c h none = elim (cases_lt 0 (left_of left c)) [
              | inl some ↦ elim (cases_lt 0 (left_of new_left c)) [
                | inl still ↦ absurd (omega (arith, h, none, takes.freed c, freed_not (left_of left c) (left_of new_left c) still))
                | inr gone ↦ omega (arith, takes.gone c, some, gone)
              ]
              | inr never ↦ absurd (omega (arith, h, none, takes.freed c, freed_never (left_of left c) (left_of new_left c) never))
            ]
