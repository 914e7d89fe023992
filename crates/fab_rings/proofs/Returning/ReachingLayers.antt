-- The nodes at one distance, and then those at the next.
use Rattle.std.proofs.Common.{◌≡◌, ◌≢◌, ℕ, zero, suc, ◌+◌, ◌<◌, ◌≤◌, List, [], ◌∷◌, length, replicate, ◌∙◌, sym, subst, refl, inl, inr, ◌⊎◌, arith, All}
use Rattle.std.specs.Prelude.{slice_index_or}
use Rattle.std.proofs.lemmas.Bool.{cases_eq, cases_lt}
use Rattle.std.proofs.lemmas.List.{length-replicate, get_or_past, get_or-replicate}
use Rattle.std.proofs.lemmas.List.Elements.{All-contains, Contains-get_or}
use Rattle.fab_graph.specs.Walks.{Walk, IsEdge}
use Rattle.fab_graph.specs.Rings.{Returns, IsNearness}
use Rattle.fab_rings.specs.EdgeList.{EdgeList}
use Rattle.fab_rings.specs.Neighbours.{predecessors_of}
use Rattle.fab_rings.specs.Layers.{times}
use Rattle.fab_rings.specs.Nearness.{near_of, AreNear, IsBefore, IsReaching, ReachesTails}
use Rattle.fab_rings.proofs.EdgesOf.{predecessor_edge, predecessor_there}
use Rattle.fab_rings.proofs.Times.{one_if_same, none_if_other, times_front, stands_there, counts_there}

module _ (g : EdgeList) (end : ℕ) where
  abbrev R : ℕ → ℕ → Type 0
  R = IsEdge g.edges

  module _ (near rest next : List ℕ) (distance x : ℕ) (reaching : IsReaching g end near (x ∷ rest) next distance) where
    before_x : IsBefore end near distance x
    before_x = reaching.rest_before x (omega (arith, times_front x x rest, one_if_same x x refl))

    -- from a predecessor of x a walk of this length leads to the end
    walk_by_x : (a : ℕ) → R a x → Walk R distance a end
    walk_by_x a edge = elim before_x [
      | inl first ↦ (let w : Walk R 1 a end = (x, edge, first.1) in subst (λ n. Walk R n a end) (sym first.0) w)
      | inr later ↦
          (let w : Walk R (suc (near_of near x)) a end = (x, edge, (reaching.right x later.0).holds.1) in
          let length : suc (near_of near x) ≡ distance = omega (arith, later.1) in
          subst (λ n. Walk R n a end) length w)
    ]

    module _ (new_near new_next : List ℕ) (reaches : ReachesTails (predecessors_of g.edges x) distance near new_near next new_next) where
      -- what is new has this distance, and an edge to x
      new_is : (a : ℕ) → near_of near a ≡ 0 → 0 < near_of new_near a → (near_of new_near a ≡ distance) × R a x
      new_is a none has = elim (cases_lt 0 (times a (predecessors_of g.edges x))) [
        | inl there ↦ (reaches.given a none there, predecessor_edge g.edges a x there)
        | inr never ↦ absurd (omega (arith, has, reaches.others a none (omega (arith, never))))
      ]

      right : (a : ℕ) → 0 < near_of new_near a → IsNearness R end a (near_of new_near a)
      right a has = elim (cases_lt 0 (near_of near a)) [
        | inl had ↦ subst (λ n. IsNearness R end a n) (sym (reaches.kept a had)) (reaching.right a had)
        | inr none ↦
            (let is : (near_of new_near a ≡ distance) × R a x = new_is a (omega arith) has in
            let nearest : IsNearness R end a distance = record { holds = (reaching.some, walk_by_x a is.1); least = λ m w. not_sooner m w (omega (arith, none)) } in
            subst (λ n. IsNearness R end a n) (sym is.0) nearest)
      ]
        where
          not_sooner : (m : ℕ) → Returns R end a m → near_of near a ≡ 0 → distance ≤ m
          not_sooner m w none = elim (cases_lt m distance) [ inl sooner ↦ absurd (omega (arith, none, (reaching.found a m w.0 sooner w.1).0)) | inr not ↦ not ]

      low : (a : ℕ) → near_of new_near a ≤ distance
      low a = elim (cases_lt 0 (near_of near a)) [
        | inl had ↦ omega (arith, reaches.kept a had, reaching.low a)
        | inr none ↦ elim (cases_lt 0 (near_of new_near a)) [
          | inl has ↦ omega (arith, (new_is a (omega arith) has).0)
          | inr not ↦ omega arith
        ]
      ]

      still_before : (b : ℕ) → IsBefore end near distance b → IsBefore end new_near distance b
      still_before b (inl first) = inl first
      still_before b (inr later) = inr (omega (arith, reaches.kept b later.0, later.0), omega (arith, reaches.kept b later.0, later.1))

      was_before : (b : ℕ) → IsBefore end new_near distance b → IsBefore end near distance b
      was_before b (inl first) = inl first
      was_before b (inr later) = elim (cases_lt 0 (near_of near b)) [
        | inl had ↦ inr (had, omega (arith, reaches.kept b had, later.1))
        | inr none ↦ absurd (omega (arith, (new_is b (omega arith) later.0).0, later.1))
      ]

      still_near : (a : ℕ) → 0 < near_of near a → 0 < near_of new_near a
      still_near a had = omega (arith, reaches.kept a had, had)

      looked : (a b : ℕ) → IsBefore end new_near distance b → R a b → (0 < times b rest) ⊎ (0 < near_of new_near a)
      looked a b before edge = elim (reaching.looked a b (was_before b before) edge) [
        | inr had ↦ inr (still_near a had)
        | inl waiting ↦ elim (cases_eq x b) [
          | inr ne ↦ inl (omega (arith, waiting, times_front b x rest, none_if_other x b ne))
          | inl same ↦ inr (reached (subst (λ c. R a c) (sym same) edge))
        ]
      ]
        where
          reached : R a x → 0 < near_of new_near a
          reached to_x = elim (cases_lt 0 (near_of near a)) [
            | inl had ↦ still_near a had
            | inr none ↦ omega (arith, reaches.given a (omega arith) (predecessor_there g.edges a x to_x), reaching.some)
          ]

      next_at : (a : ℕ) → near_of new_near a ≡ distance → 0 < times a new_next
      next_at a at = elim (cases_lt 0 (near_of near a)) [
        | inl had ↦ reaches.next_kept a (reaching.next_at a (omega (arith, reaches.kept a had, at)))
        | inr none ↦ reaches.next_given a (omega arith) (omega (arith, at, reaching.some))
      ]

      at_next : (a : ℕ) → 0 < times a new_next → near_of new_near a ≡ distance
      at_next a there = elim (reaches.next_only a there) [
        | inl before ↦ (let at : near_of near a ≡ distance = reaching.at_next a before in reaches.kept a (omega (arith, at, reaching.some)) ∙ at)
        | inr new ↦ (new_is a new.0 new.1).0
      ]

      -- the first node of the rest has been looked at
      pub reaches_first : IsReaching g end new_near rest new_next distance
      reaches_first = record {
        each = reaches.each ∙ reaching.each;
        some = reaching.some;
        right = right;
        low = low;
        found = λ a n some less w. let had : (0 < near_of near a) × (near_of near a ≤ n) = reaching.found a n some less w in
            (still_near a had.0, omega (arith, reaches.kept a had.0, had.1));
        looked = looked;
        rest_before = λ b h. still_before b (reaching.rest_before b (omega (arith, times_front b x rest, h)));
        next_at = next_at;
        at_next = at_next;
      }

  -- a node with a number has a walk of so many edges, and a predecessor one of one edge more
  longer : (near : List ℕ) → ((a : ℕ) → 0 < near_of near a → IsNearness R end a (near_of near a)) → (a b : ℕ) → R a b → 0 < near_of near b → Walk R (suc (near_of near b)) a end
  longer near right a b edge has = (b, edge, (right b has).holds.1)

  module _ (near next : List ℕ) (distance : ℕ) (reaching : IsReaching g end near [] next distance) where
    -- once all of a layer has been looked at, what has an edge to a node that is near enough has a number
    reached : (a b : ℕ) → IsBefore end near distance b → R a b → 0 < near_of near a
    reached a b before edge = elim (reaching.looked a b before edge) [ inl waiting ↦ absurd (omega (arith, waiting)) | inr has ↦ has ]

    by_near : (a b : ℕ) → R a b → 0 < near_of near b → near_of near b < distance → (0 < near_of near a) × (near_of near a ≤ suc (near_of near b))
    by_near a b edge has less = elim (cases_lt (suc (near_of near b)) distance) [
      | inl sooner ↦ reaching.found a (suc (near_of near b)) (omega arith) sooner (longer near reaching.right a b edge has)
      | inr now ↦ (reached a b (inr (has, omega (arith, now, less))) edge, omega (arith, reaching.low a, now))
    ]

    by_end : (a b m : ℕ) → R a b → Walk R m b end → m ≤ 0 → distance ≤ suc m → 0 < near_of near a
    by_end a b m edge w none far =
        let zero_more : m ≡ 0 = omega arith in
        let at_end : Walk R 0 b end = subst (λ k. Walk R k b end) zero_more w in
        reached a b (inl (omega (arith, reaching.some), at_end)) edge

    found : (a n : ℕ) → 0 < n → n < distance + 1 → Walk R n a end → (0 < near_of near a) × (near_of near a ≤ n)
    found a zero some less w = absurd (omega arith)
    found a (suc m) some less w = elim (cases_lt (suc m) distance) [
      | inl sooner ↦ reaching.found a (suc m) some sooner w
      | inr now ↦ elim (cases_lt 0 m) [
        | inr none ↦ (by_end a w.0 m w.1 w.2 none now, omega (arith, reaching.low a, now))
        | inl more ↦
            (let before : (0 < near_of near w.0) × (near_of near w.0 ≤ m) = reaching.found w.0 m more (omega arith) w.2 in
            let here : (0 < near_of near a) × (near_of near a ≤ suc (near_of near w.0)) = by_near a w.0 w.1 before.0 (omega (arith, before.1)) in
            (here.0, omega (arith, here.1, before.1)))
      ]
    ]

    pub next_distance : IsReaching g end near next [] (distance + 1)
    next_distance = record {
      each = reaching.each;
      some = omega arith;
      right = reaching.right;
      low = λ a. omega (arith, reaching.low a);
      found = found;
      looked = looked;
      rest_before = λ b there. let at : near_of near b ≡ distance = reaching.at_next b there in inr (omega (arith, at, reaching.some), omega (arith, at));
      next_at = λ a at. absurd (omega (arith, at, reaching.low a));
      at_next = λ a there. absurd (omega (arith, there));
    }
      where
        looked : (a b : ℕ) → IsBefore end near (distance + 1) b → R a b → (0 < times b next) ⊎ (0 < near_of near a)
        looked a b (inl first) edge = absurd (omega (arith, first.0, reaching.some))
        looked a b (inr later) edge = inl (reaching.next_at b (omega (arith, later.1)))

  -- where no node stands at this distance, all are found
  pub all_reached : (near : List ℕ) (distance : ℕ) → IsReaching g end near [] [] distance → AreNear g end near
  all_reached near distance reaching = record { each = reaching.each; right = reaching.right; others = λ a n none w. absurd (omega (arith, none, reached_by n a w.0 w.1)) }
    where
      below : (b : ℕ) → (near_of near b ≡ distance) ⊎ (near_of near b ≢ distance) → near_of near b < distance
      below b (inl at) = absurd (omega (arith, reaching.next_at b at))
      below b (inr ne) = omega (arith, reaching.low b, ne)

      reached_by : (n a : ℕ) → 0 < n → Walk R n a end → 0 < near_of near a
      reached_by zero a some w = absurd (omega arith)
      reached_by (suc m) a some w = elim (cases_lt (suc m) distance) [
        | inl sooner ↦ (reaching.found a (suc m) some sooner w).0
        | inr far ↦ elim (cases_lt 0 m) [
          | inr none ↦ by_end near [] distance reaching a w.0 m w.1 w.2 none far
          | inl more ↦
              (let before : 0 < near_of near w.0 = reached_by m w.0 more w.2 in
              (by_near near [] distance reaching a w.0 w.1 before (below w.0 (cases_eq (near_of near w.0) distance))).0)
        ]
      ]

  -- at first only the end is to be looked at
  pub reach_end : IsReaching g end (replicate g.nodes 0) (end ∷ []) [] 1
  reach_end = record {
    each = length-replicate {A = ℕ} g.nodes 0;
    some = omega arith;
    right = λ a has. absurd (omega (arith, has, nothing a));
    low = λ a. omega (arith, nothing a);
    found = λ a n some less w. absurd (omega arith);
    looked = looked;
    rest_before = λ b there. inl (refl, is_end b there);
    next_at = λ a at. absurd (omega (arith, at, nothing a));
    at_next = λ a there. absurd (omega (arith, there));
  }
    where
      nothing : (a : ℕ) → near_of (replicate g.nodes 0) a ≡ 0
      nothing a = elim (cases_lt a g.nodes) [
        | inl low ↦ get_or-replicate g.nodes a 0 0 low
        | inr past ↦ get_or_past {X = ℕ} (replicate g.nodes 0) a 0 (omega (arith, length-replicate {A = ℕ} g.nodes 0))
      ]

      is_end : (b : ℕ) → 0 < times b (end ∷ []) → b ≡ end
      is_end b there = elim (cases_eq end b) [ inl same ↦ sym same | inr ne ↦ absurd (omega (arith, there, times_front b end [], none_if_other end b ne)) ]

      looked : (a b : ℕ) → IsBefore end (replicate g.nodes 0) 1 b → R a b → (0 < times b (end ∷ [])) ⊎ (0 < near_of (replicate g.nodes 0) a)
      looked a b (inl first) edge = inl (omega (arith, times_front b end [], one_if_same end b (sym first.1)))
      looked a b (inr later) edge = absurd (omega (arith, later.0, nothing b))

-- what stands in the next layer is a node
pub next_low : (nodes distance : ℕ) (tails old_near new_near old_next new_next : List ℕ) → ReachesTails tails distance old_near new_near old_next new_next → length new_near ≡ nodes → All (λ a. a < nodes) old_next →
    All (λ a. a < nodes) new_next
next_low nodes distance tails old_near new_near old_next new_next reaches each all k d low =
    below (slice_index_or new_next k d) (counts_there (slice_index_or new_next k d) new_next (Contains-get_or new_next k d low))
  where
    below : (a : ℕ) → 0 < times a new_next → a < nodes
    below a there = elim (reaches.next_only a there) [
      | inl before ↦ All-contains (λ b. b < nodes) old_next a all (stands_there a old_next before)
      | inr new ↦ elim (cases_lt a nodes) [ inl less ↦ less | inr past ↦ absurd (omega (arith, new.1, get_or_past {X = ℕ} new_near a 0 (omega (arith, each)))) ]
    ]
