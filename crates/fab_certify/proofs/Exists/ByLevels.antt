-- An acyclic graph of finitely many edges has levels: the level of a node is one more than the length of the longest walk that ends there.
use Rattle.std.proofs.Common.{◌≡◌, ℕ, zero, suc, ◌+◌, ◌-◌, ◌<◌, ◌≤◌, inl, inr, List, [], ◌∷◌, length, map, refl, sym, ◌∙◌, ap, subst, arith, Contains, Some}
use Rattle.std.specs.Prelude.{slice_get, slice_index_or}
use Rattle.std.specs.List.{range_with_len}
use Rattle.std.proofs.lemmas.Bool.{cases_lt}
use Rattle.std.proofs.lemmas.List.{get_or_past}
use Rattle.std.proofs.lemmas.List.FromFn.{length-map-range_with_len, get_or-map-range_with_len}
use Rattle.std.proofs.lemmas.Option.{none-some, same_Some}
use Rattle.fab_graph.specs.Walks.{Walk, IsEdge, IsAcyclic}
use Rattle.fab_graph.specs.Levels.{AreLevels}
use Rattle.fab_graph.proofs.Decided.{Decided, equal, equivalent, both}
use Rattle.fab_graph.proofs.Repeats.{HasRepeat, pigeonhole}
use Rattle.fab_graph.proofs.Walks.{walk_through}
use Rattle.fab_rings.specs.EdgeList.{AreNodeLevels}
use Rattle.fab_tables.proofs.Joined.ConnectedDecided.{some_decided}

-- ---- walks and their last edge

module _ (R : ℕ → ℕ → Type 0) where
  last_edge : (n a b : ℕ) → Walk R (suc n) a b → (c : ℕ) × Walk R n a c × R c b
  last_edge zero a b w = (a, refl, subst (λ x. R a x) w.2 w.1)
  last_edge (suc n) a b w = let r : (c : ℕ) × Walk R n w.0 c × R c b = last_edge n w.0 b w.2 in (r.0, (w.0, w.1, r.1), r.2)

  one_more : (n a b c : ℕ) → Walk R n a b → R b c → Walk R (suc n) a c
  one_more n a b c w edge =
      let same : n + 1 ≡ suc n = omega arith in
      subst (λ k. Walk R k a c) same (walk_through R n 1 a b c w (c, edge, refl))

  -- the nodes that an edge of the walk leaves
  nodes : (n a b : ℕ) → Walk R n a b → List ℕ
  nodes zero a b w = []
  nodes (suc n) a b w = a ∷ nodes n w.0 b w.2

  as_many : (n a b : ℕ) (w : Walk R n a b) → length (nodes n a b w) ≡ n
  unfolding nodes
  as_many zero a b w = refl
  as_many (suc n) a b w = ap (λ k. suc k) (as_many n w.0 b w.2)

  below : (size : ℕ) → ((a b : ℕ) → R a b → a < size) → (n a b : ℕ) (w : Walk R n a b) (i x : ℕ) → slice_get (nodes n a b w) i ≡ Some x → x < size
  unfolding nodes
  below size low zero a b w i x at = absurd (none-some x at)
  below size low (suc n) a b w zero x at = subst (λ y. y < size) (same_Some a x at) (low a w.0 w.1)
  below size low (suc n) a b w (suc i) x at = below size low n w.0 b w.2 i x at

  to_place : (n a b : ℕ) (w : Walk R n a b) (j x : ℕ) → slice_get (nodes n a b w) j ≡ Some x → Walk R j a x
  unfolding nodes
  to_place zero a b w j x at = absurd (none-some x at)
  to_place (suc n) a b w zero x at = same_Some a x at
  to_place (suc n) a b w (suc j) x at = (w.0, w.1, to_place n w.0 b w.2 j x at)

  -- from one place to a later one
  between : (n a b : ℕ) (w : Walk R n a b) (i d x y : ℕ) → slice_get (nodes n a b w) i ≡ Some x → slice_get (nodes n a b w) (i + suc d) ≡ Some y → Walk R (suc d) x y
  unfolding nodes
  between zero a b w i d x y p q = absurd (none-some x p)
  between (suc n) a b w zero d x y p q =
      let same : 0 + suc d ≡ suc d = omega arith in
      subst (λ z. Walk R (suc d) z y) (same_Some a x p) (to_place (suc n) a b w (suc d) y (subst (λ k. slice_get (a ∷ nodes n w.0 b w.2) k ≡ Some y) same q))
  between (suc n) a b w (suc i) d x y p q =
      let same : suc i + suc d ≡ suc (i + suc d) = omega arith in
      between n w.0 b w.2 i d x y p (subst (λ k. slice_get (a ∷ nodes n w.0 b w.2) k ≡ Some y) same q)

  -- without a closed walk, a walk has as many edges as there are nodes at most
  pub walk_short : (size : ℕ) → ((a b : ℕ) → R a b → a < size) → IsAcyclic R → (n a b : ℕ) → Walk R n a b → n ≤ size
  walk_short size low acyclic n a b w = elim (cases_lt size n) [ inr few ↦ few | inl many ↦ absurd (again (pigeonhole size (nodes n a b w) (λ i x at. below size low n a b w i x at) (omega (arith, many, as_many n a b w)))) ]
    where
      again : HasRepeat (nodes n a b w) → ⊥
      again r =
          let same : r.2 ≡ r.1 + suc (r.2 - r.1 - 1) = omega (arith, r.3) in
          acyclic r.0 (r.2 - r.1 - 1, between n a b w r.1 (r.2 - r.1 - 1) r.0 r.0 r.4 (subst (λ k. slice_get (nodes n a b w) k ≡ Some r.0) same r.5))

-- ---- of a list of edges

abbrev Edges : Type 0
Edges = List (ℕ × ℕ)

-- an edge from a, and a walk of n edges from its end
abbrev GoesOn : ℕ → (ℕ → Type 0) → ℕ × ℕ → Type 0
GoesOn a P e = (e.0 ≡ a) × P e.1

walk_decided : (es : Edges) (n a b : ℕ) → Decided (Walk (IsEdge es) n a b)
walk_decided es zero a b = equal a b
walk_decided es (suc n) a b =
    equivalent ((e : ℕ × ℕ) × Contains es e × GoesOn a (λ c. Walk (IsEdge es) n c b) e) (Walk (IsEdge es) (suc n) a b)
    (λ s. (s.0.1, subst (λ (x : ℕ). IsEdge es x s.0.1) s.2.0 s.1, s.2.1))
    (λ w. ((a, w.0), w.1, (refl, w.2)))
    (some_decided (GoesOn a (λ c. Walk (IsEdge es) n c b)) (λ e. both (e.0 ≡ a) (Walk (IsEdge es) n e.1 b) (equal e.0 a) (walk_decided es n e.1 b)) es)

module _ (es : Edges) (size : ℕ) (low : (a b : ℕ) → IsEdge es a b → a < size) (acyclic : IsAcyclic (IsEdge es)) where
  -- a walk of so many edges ends at the node
  abbrev Ends : ℕ → ℕ → Type 0
  Ends b n = (a : ℕ) × Walk (IsEdge es) n a b

  ends_decided : (b n : ℕ) → Decided (Ends b n)
  ends_decided b zero = inl (b, refl)
  ends_decided b (suc n) =
      equivalent ((e : ℕ × ℕ) × Contains es e × Walk (IsEdge es) n e.1 b) (Ends b (suc n))
      (λ s. (s.0.0, (s.0.1, s.1, s.2)))
      (λ r. ((r.0, r.1.0), r.1.1, r.1.2))
      (some_decided (λ (e : ℕ × ℕ). Walk (IsEdge es) n e.1 b) (λ e. walk_decided es n e.1 b) es)

  abbrev Longest : ℕ → Type 0
  Longest b = (n : ℕ) × Ends b n × ((m : ℕ) → Ends b m → m ≤ n)

  going_down : (b k : ℕ) → ((m : ℕ) → Ends b m → m ≤ k) → Longest b
  going_down b zero all = (0, (b, refl), all)
  going_down b (suc k) all = elim (ends_decided b (suc k)) [
    | inl is ↦ (suc k, is, all)
    | inr none ↦ going_down b k (λ m e. elim (cases_lt k m) [
      | inr few ↦ few
      | inl more ↦ (let same : m ≡ suc k = omega (arith, more, all m e) in absurd (none (subst (λ n. Ends b n) same e)))
    ])
  ]

  longest : (b : ℕ) → Longest b
  longest b = going_down b size (λ m e. walk_short (IsEdge es) size low acyclic m e.0 b e.1)

  pub level_of : ℕ → ℕ
  level_of b = suc (longest b).0

  pub level_low : (b : ℕ) → level_of b ≤ suc size
  unfolding level_of
  level_low b = let l : Longest b = longest b in omega (arith, walk_short (IsEdge es) size low acyclic l.0 l.1.0 b l.1.1)

  above : (a b : ℕ) → IsEdge es a b → level_of a < level_of b
  unfolding level_of
  above a b edge =
      let l : Longest a = longest a in
      omega (arith, (longest b).2 (suc l.0) (l.1.0, one_more (IsEdge es) l.0 l.1.0 a b l.1.1 edge))

  before : (b n : ℕ) → Ends b n → ((m : ℕ) → Ends b m → m ≤ n) → 0 < n → (a : ℕ) × IsEdge es a b × (suc n ≡ level_of a + 1)
  unfolding level_of
  before b zero ends all more = absurd (omega (arith, more))
  before b (suc n) ends all more =
      let last : (c : ℕ) × Walk (IsEdge es) n ends.0 c × IsEdge es c b = last_edge (IsEdge es) n ends.0 b ends.1 in
      let l : Longest last.0 = longest last.0 in
      (last.0, last.2, omega (arith, l.2 n (ends.0, last.1), all (suc l.0) (l.1.0, one_more (IsEdge es) l.0 l.1.0 last.0 b l.1.1 last.2)))

  pub are_levels : AreLevels (IsEdge es) level_of
  unfolding level_of
  are_levels = record {
    positive = λ b. omega arith;
    above = above;
    attained = λ b more. before b (longest b).0 (longest b).1 (longest b).2 (omega (arith, more));
  }

  -- as a list, one for each node
  module _ (ends_low : (a b : ℕ) → IsEdge es a b → b < size) where
    pub levels : List ℕ
    levels = map level_of (range_with_len 0 size)

    level_at : (b : ℕ) → slice_index_or levels b 1 ≡ level_of b
    unfolding levels
    level_at b = elim (cases_lt b size) [
      | inl here ↦ get_or-map-range_with_len level_of 0 size b b 1 here (omega arith)
      | inr past ↦ get_or_past levels b 1 (omega (arith, length-map-range_with_len level_of 0 size, past)) ∙ sym (lowest past)
    ]
      where
        lowest : size ≤ b → level_of b ≡ 1
        lowest past = elim (cases_lt 1 (level_of b)) [
          | inr few ↦ omega (arith, few, are_levels.positive b)
          | inl more ↦ (let from : (a : ℕ) × IsEdge es a b × (level_of b ≡ level_of a + 1) = are_levels.attained b more in absurd (omega (arith, past, ends_low from.0 b from.1)))
        ]

    pub listed_low : (b : ℕ) → slice_index_or levels b 1 ≤ suc size
    listed_low b = omega (arith, level_at b, level_low b)

    pub node_levels : AreNodeLevels (record { nodes = size; edges = es }) levels
    unfolding levels
    node_levels = record {
      each = length-map-range_with_len level_of 0 size;
      levels = record {
        positive = λ b. omega (arith, level_at b, are_levels.positive b);
        above = λ a b edge. omega (arith, level_at a, level_at b, are_levels.above a b edge);
        attained = λ b more. let from : (a : ℕ) × IsEdge es a b × (level_of b ≡ level_of a + 1) = are_levels.attained b (omega (arith, level_at b, more)) in (from.0, from.1, omega (arith, level_at b, level_at from.0, from.2));
      };
    }
