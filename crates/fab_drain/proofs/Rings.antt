-- Graphs in which one edge leaves each node: from each node a walk leads to one ring.
use Rattle.std.proofs.Common.{◌≡◌, ℕ, zero, suc, ◌+◌, ◌-◌, ◌<◌, ◌≤◌, ◌⊎◌, inl, inr, List, [], ◌∷◌, length, map, refl, sym, ◌∙◌, ap, subst, arith, All, Contains, slice_index_or, Some, true, false, Bool, ◌||◌, eqb}
use Rattle.std.specs.Prelude.{slice_get}
use Rattle.std.specs.List.{range_with_len, list_any, IsDistinct, AllByRecursion}
use Rattle.std.proofs.lemmas.Bool.{cases_lt, eqb-true, or_parts, cases_Bool}
use Rattle.std.proofs.lemmas.List.Elements.{All-cons}
use Rattle.std.proofs.lemmas.List.FromFn.{get_or-map-range_with_len, length-map-range_with_len}
use Rattle.std.proofs.lemmas.Map.Keys.{IsDistinct-cons}
use Rattle.std.proofs.lemmas.Map.Steps.{length-le_from_distinct_below}
use Rattle.std.proofs.lemmas.Option.{get_or_from_slice_get, slice_get_within}
use Rattle.fab_graph.specs.Walks.{Walk, IsOnClosedWalk, IsEdge}
use Rattle.fab_graph.specs.Rings.{IsNearness, ReturnsByLeast, IsFirstRing}
use Rattle.fab_graph.proofs.FirstRings.{first_ring}
use Rattle.fab_drain.specs.Drains.{GoesAround, IsRingFrom}

-- ---- walks one after the other

pub walk_through : (R : ℕ → ℕ → Type 0) (m n a b c : ℕ) → Walk R m a b → Walk R n b c → Walk R (m + n) a c
walk_through R zero n a b c w v =
    let same : n ≡ 0 + n = omega arith in
    subst (λ k. Walk R k a c) same (subst (λ x. Walk R n x c) (sym w) v)
walk_through R (suc m) n a b c w v =
    let next : Walk R (suc (m + n)) a c = (w.0, w.1, walk_through R m n w.0 b c w.2 v) in
    let same : suc (m + n) ≡ suc m + n = omega arith in
    subst (λ k. Walk R k a c) same next

-- ---- a list longer than its numbers are many has a repeat

at_place : (q : ℕ) (xs : List ℕ) → list_any (eqb q) xs ≡ true → (k : ℕ) × (slice_get xs k ≡ Some q)
at_place q [] h = cc
at_place q (x ∷ xs) h = go (at_place q xs) (eqb q x) refl h
  where
    go : (list_any (eqb q) xs ≡ true → (k : ℕ) × (slice_get xs k ≡ Some q)) → (b : Bool) → eqb q x ≡ b → (b || list_any (eqb q) xs) ≡ true → (k : ℕ) × (slice_get (x ∷ xs) k ≡ Some q)
    go rest true e h = (0, ap Some (sym (eqb-true q x e)))
    go rest false e h = let r : (k : ℕ) × (slice_get xs k ≡ Some q) = rest h in (suc r.0, r.1)

all_others : (x : ℕ) (xs : List ℕ) → list_any (eqb x) xs ≡ false → AllByRecursion (λ y. eqb x y ≡ false) xs
all_others x [] h = tt
all_others x (y ∷ ys) h = let p : (eqb x y ≡ false) × (list_any (eqb x) ys ≡ false) = or_parts (eqb x y) (list_any (eqb x) ys) h in (p.0, all_others x ys p.1)

abbrev pub Repeats : List ℕ → Type 0
Repeats xs = (a i j : ℕ) × (i < j) × (slice_get xs i ≡ Some a) × (slice_get xs j ≡ Some a)

repeat_or_distinct : (xs : List ℕ) → Repeats xs ⊎ IsDistinct eqb xs
unfolding IsDistinct
repeat_or_distinct [] = inr tt
repeat_or_distinct (x ∷ xs) = go (repeat_or_distinct xs) (cases_Bool (list_any (eqb x) xs))
  where
    go : Repeats xs ⊎ IsDistinct eqb xs → (list_any (eqb x) xs ≡ true) ⊎ (list_any (eqb x) xs ≡ false) → Repeats (x ∷ xs) ⊎ IsDistinct eqb (x ∷ xs)
    go (inl r) b = inl (r.0, suc r.1, suc r.2, omega (arith, r.3), r.4, r.5)
    go (inr d) (inl h) = let there : (k : ℕ) × (slice_get xs k ≡ Some x) = at_place x xs h in inl (x, 0, suc there.0, omega arith, refl, there.1)
    go (inr d) (inr h) = inr (IsDistinct-cons eqb x xs (all_others x xs h) d)

pub pigeonhole : (n : ℕ) (xs : List ℕ) → ((i a : ℕ) → slice_get xs i ≡ Some a → a < n) → n < length xs → Repeats xs
pigeonhole n xs below long = elim (repeat_or_distinct xs) [
  | inl r ↦ r
  | inr d ↦ absurd (omega (arith, length-le_from_distinct_below xs n d (λ q h. let there : (k : ℕ) × (slice_get xs k ≡ Some q) = at_place q xs h in below there.0 q there.1)))
]

-- ---- a ring in a finite part that no edge leaves

module _ (R : ℕ → ℕ → Type 0) (In : ℕ → Type 0) (step : (a : ℕ) → In a → (b : ℕ) × R a b × In b) (size : ℕ) (below : (a : ℕ) → In a → a < size) (start : ℕ) (inside : In start) where
  -- the nodes from the start on
  pub at : ℕ → (a : ℕ) × In a
  at zero = (start, inside)
  at (suc k) = let next : (b : ℕ) × R (at k).0 b × In b = step (at k).0 (at k).1 in (next.0, next.2)

  pub node : ℕ → ℕ
  node k = (at k).0

  pub goes : (k : ℕ) → R (node k) (node (suc k))
  unfolding node at
  goes k = (step (at k).0 (at k).1).1

  pub from_start : node 0 ≡ start
  unfolding node at
  from_start = refl

  pub node_below : (k : ℕ) → node k < size
  unfolding node
  node_below k = below (at k).0 (at k).1

  abbrev pub edge_at : ℕ → ℕ × ℕ
  edge_at k = (node k, node (suc k))

  abbrev pub edges : List (ℕ × ℕ)
  edges = map edge_at (range_with_len 0 size)

  walk_edges : (S : ℕ → ℕ → Type 0) (top : ℕ) → ((k : ℕ) → k < top → S (node k) (node (suc k))) → (d i j : ℕ) → j ≡ i + d → j ≤ top → Walk S d (node i) (node j)
  walk_edges S top each zero i j e h = ap node (omega (arith, e))
  walk_edges S top each (suc d) i j e h = (node (suc i), each i (omega (arith, e, h)), walk_edges S top each d (suc i) j (omega (arith, e)) h)

  edge_there : (k : ℕ) → k < size → IsEdge edges (node k) (node (suc k))
  edge_there k h =
      (k, omega (arith, h, length-map-range_with_len edge_at 0 size), get_or-map-range_with_len edge_at 0 size k k (node k, node (suc k)) h (omega arith))

  edge_from : (a b : ℕ) → IsEdge edges a b → (k : ℕ) × (node k ≡ a) × (node (suc k) ≡ b)
  edge_from a b has =
      let low : has.0 < size = omega (arith, has.1, length-map-range_with_len edge_at 0 size) in
      let same : (node has.0, node (suc has.0)) ≡ (a, b) = sym (get_or-map-range_with_len edge_at 0 size has.0 has.0 (a, b) low (omega arith)) ∙ has.2 in
      (has.0, ap (λ (e : ℕ × ℕ). e.0) same, ap (λ (e : ℕ × ℕ). e.1) same)

  edge_in : (a b : ℕ) → IsEdge edges a b → R a b
  edge_in a b has =
      let from : (k : ℕ) × (node k ≡ a) × (node (suc k) ≡ b) = edge_from a b has in
      subst (λ y. R a y) from.2 (subst (λ x. R x (node (suc from.0))) from.1 (goes from.0))

  pub closed : (a : ℕ) × IsOnClosedWalk (IsEdge edges) a
  closed =
      let nodes : List ℕ = map node (range_with_len 0 (suc size)) in
      let whole : length nodes ≡ suc size = length-map-range_with_len node 0 (suc size) in
      let here : (i a : ℕ) → slice_get nodes i ≡ Some a → node i ≡ a = λ i a h.
      sym (get_or-map-range_with_len node 0 (suc size) i i a (omega (arith, slice_get_within nodes i a h, whole)) (omega arith)) ∙ get_or_from_slice_get nodes i a a h in
      let again : Repeats nodes = pigeonhole size nodes (λ i a h. omega (arith, here i a h, node_below i)) (omega (arith, whole)) in
      let last : again.2 < suc size = omega (arith, slice_get_within nodes again.2 again.0 again.5, whole) in
      let walk : Walk (IsEdge edges) (suc (again.2 - again.1 - 1)) (node again.1) (node again.2) =
      walk_edges (IsEdge edges) size edge_there (suc (again.2 - again.1 - 1)) again.1 again.2 (omega (arith, again.3)) (omega (arith, last)) in
      (node again.1, (again.2 - again.1 - 1, subst (λ y. Walk (IsEdge edges) (suc (again.2 - again.1 - 1)) (node again.1) y) (here again.2 again.0 again.5 ∙ sym (here again.1 again.0 again.4)) walk))

  -- the first ring of these edges
  around : (f a : ℕ) (xs : List ℕ) → ReturnsByLeast (IsEdge edges) f (a ∷ xs) → GoesAround R f (a ∷ xs)
  around f a [] x = subst (λ y. R a y) x.holds.1.2 (edge_in a x.holds.1.0 x.holds.1.1)
  around f a (b ∷ xs) x = (edge_in a b x.3.holds.0, around f b xs x.4)

  greater : (f : ℕ) → ((m : ℕ) → IsOnClosedWalk (IsEdge edges) m → f ≤ m) → (a n : ℕ) (xs : List ℕ) → Walk (IsEdge edges) n f a → ReturnsByLeast (IsEdge edges) f (a ∷ xs) → All (λ m. f < m) xs
  greater f least a n [] w x = λ k d h. absurd (omega (arith, h))
  greater f least a n (b ∷ xs) w x =
      let edge : IsEdge edges a b = x.3.holds.0 in
      let to_b : Walk (IsEdge edges) (n + 1) f b = walk_through (IsEdge edges) n 1 f a b w (b, edge, refl) in
      let near : IsNearness (IsEdge edges) f b x.0 = x.3.holds.1 in
      let round : Walk (IsEdge edges) (x.0 + (n + 1)) b b = walk_through (IsEdge edges) x.0 (n + 1) b f b near.holds.1 to_b in
      let same : x.0 + (n + 1) ≡ suc (x.0 + n) = omega arith in
      let on : IsOnClosedWalk (IsEdge edges) b = (x.0 + n, subst (λ k. Walk (IsEdge edges) k b b) same round) in
      let differs : ¬ (f ≡ b) = λ same. omega (arith, x.1, x.2.least 1 (omega arith, (b, edge, sym same))) in
      All-cons (λ m. f < m) b xs (above b differs (least b on)) (greater f least b (n + 1) xs to_b x.4)
    where
      above : (m : ℕ) → ¬ (f ≡ m) → f ≤ m → f < m
      above m other h = elim (cases_lt f m) [ inl less ↦ less | inr more ↦ absurd (other (omega arith)) ]

  pub is_ring : (ring : List ℕ) → IsFirstRing (IsEdge edges) ring → IsRingFrom R start ring
  is_ring [] x = absurd x
  is_ring (f ∷ rest) x =
      let from : (k : ℕ) × (node k ≡ f) × (node (suc k) ≡ x.0.holds.1.0) = edge_from f x.0.holds.1.0 x.0.holds.1.1 in
      let walk : Walk R from.0 (node 0) (node from.0) = walk_edges R from.0 (λ k h. goes k) from.0 0 from.0 (omega arith) (omega arith) in
      ((from.0, subst (λ y. Walk R from.0 start y) from.1 (subst (λ y. Walk R from.0 y (node from.0)) from_start walk)), greater f x.0.least f 0 rest refl x.1, around f f rest x.1)

  pub ring_from : (ring : List ℕ) × IsRingFrom R start ring
  ring_from = let found : (ring : List ℕ) × IsFirstRing (IsEdge edges) ring = first_ring edges closed.0 closed.1 in (found.0, is_ring found.0 found.1)

-- ---- and there is no other ring

pub here_or_later : (x : ℕ) (xs : List ℕ) (a : ℕ) → Contains (x ∷ xs) a → (x ≡ a) ⊎ Contains xs a
here_or_later x xs a has = go has.0 has.1 has.2
  where
    go : (k : ℕ) → k < length (x ∷ xs) → slice_index_or (x ∷ xs) k a ≡ a → (x ≡ a) ⊎ Contains xs a
    go zero h e = inl e
    go (suc k) h e = inr (k, omega (arith, h), e)

pub later : (x : ℕ) (xs : List ℕ) (a : ℕ) → Contains xs a → Contains (x ∷ xs) a
later x xs a has = (suc has.0, omega (arith, has.1), has.2)

module _ (R : ℕ → ℕ → Type 0) (one : (a b c : ℕ) → R a b → R a c → b ≡ c) where
  -- an edge from a member leads to the first or to a later member
  goes_in : (f a : ℕ) (xs : List ℕ) → GoesAround R f (a ∷ xs) → (x y : ℕ) → Contains (a ∷ xs) x → R x y → (f ≡ y) ⊎ Contains xs y
  goes_in f a [] g x y has edge = elim (here_or_later a [] x has) [
    | inl e ↦ inl (one x f y (subst (λ z. R z f) e g) edge)
    | inr c ↦ absurd (omega (arith, c.1))
  ]
  goes_in f a (b ∷ rest) g x y has edge = elim (here_or_later a (b ∷ rest) x has) [
    | inl e ↦ inr (0, omega arith, one x b y (subst (λ z. R z b) e g.0) edge)
    | inr c ↦ elim (goes_in f b rest g.1 x y c edge) [ inl e ↦ inl e | inr d ↦ inr (later b rest y d) ]
  ]

  stays : (f : ℕ) (xs : List ℕ) → GoesAround R f (f ∷ xs) → (n x y : ℕ) → Contains (f ∷ xs) x → Walk R n x y → Contains (f ∷ xs) y
  stays f xs g zero x y has w = subst (λ z. Contains (f ∷ xs) z) w has
  stays f xs g (suc n) x y has w = elim (goes_in f f xs g x w.0 has w.1) [
    | inl e ↦ stays f xs g n w.0 y (0, omega arith, e) w.2
    | inr c ↦ stays f xs g n w.0 y (later f xs w.0 c) w.2
  ]

  -- a walk leads from each member to the first
  to_first : (f a : ℕ) (xs : List ℕ) → GoesAround R f (a ∷ xs) → (x : ℕ) → Contains (a ∷ xs) x → (n : ℕ) × Walk R n x f
  to_first f a [] g x has = elim (here_or_later a [] x has) [
    | inl e ↦ (1, subst (λ z. Walk R 1 z f) e (f, g, refl))
    | inr c ↦ absurd (omega (arith, c.1))
  ]
  to_first f a (b ∷ rest) g x has = elim (here_or_later a (b ∷ rest) x has) [
    | inl e ↦ (let r : (n : ℕ) × Walk R n b f = to_first f b rest g.1 b (0, omega arith, refl) in (suc r.0, subst (λ z. Walk R (suc r.0) z f) e (b, g.0, r.1)))
    | inr c ↦ to_first f b rest g.1 x c
  ]

  -- the longer of two walks goes on from the end of the other one
  goes_on : (m d s a b : ℕ) → Walk R m s a → Walk R (m + d) s b → Walk R d a b
  goes_on zero d s a b w v =
      let same : 0 + d ≡ d = omega arith in
      subst (λ x. Walk R d x b) w (subst (λ k. Walk R k s b) same v)
  goes_on (suc m) d s a b w v =
      let same : suc m + d ≡ suc (m + d) = omega arith in
      let long : Walk R (suc (m + d)) s b = subst (λ k. Walk R k s b) same v in
      goes_on m d w.0 a b w.2 (subst (λ x. Walk R (m + d) x b) (one s long.0 w.0 long.1 w.1) long.2)

  -- the first member is least
  first_least : (f : ℕ) (xs : List ℕ) → All (λ m. f < m) xs → (x : ℕ) → Contains (f ∷ xs) x → f ≤ x
  first_least f xs all x has = elim (here_or_later f xs x has) [
    | inl e ↦ omega (arith, e)
    | inr c ↦ omega (arith, all c.0 x c.1, c.2)
  ]

  -- from the first of one ring a walk leads to that of the other, so both are one
  first_of_longer : (start f g m n : ℕ) (xs ys : List ℕ) → m ≤ n → Walk R m start f → Walk R n start g →
      All (λ k. f < k) xs → GoesAround R f (f ∷ xs) → All (λ k. g < k) ys → GoesAround R g (g ∷ ys) → f ≡ g
  first_of_longer start f g m n xs ys h w v all_f round_f all_g round_g =
      let same : n ≡ m + (n - m) = omega (arith, h) in
      let on : Walk R (n - m) f g = goes_on m (n - m) start f g w (subst (λ k. Walk R k start g) same v) in
      let in_f : Contains (f ∷ xs) g = stays f xs round_f (n - m) f g (0, omega arith, refl) on in
      let back : (k : ℕ) × Walk R k g f = to_first f f xs round_f g in_f in
      let in_g : Contains (g ∷ ys) f = stays g ys round_g back.0 g f (0, omega arith, refl) back.1 in
      omega (arith, first_least f xs all_f g in_f, first_least g ys all_g f in_g)

  same_rest : (f a : ℕ) (xs ys : List ℕ) → All (λ k. f < k) xs → All (λ k. f < k) ys → GoesAround R f (a ∷ xs) → GoesAround R f (a ∷ ys) → xs ≡ ys
  same_rest f a [] [] p q g h = refl
  same_rest f a [] (c ∷ ys) p q g h = absurd (omega (arith, q 0 c (omega arith), one a f c g h.0))
  same_rest f a (b ∷ xs) [] p q g h = absurd (omega (arith, p 0 b (omega arith), one a f b h g.0))
  same_rest f a (b ∷ xs) (c ∷ ys) p q g h =
      let next : c ≡ b = one a c b h.0 g.0 in
      let rest : xs ≡ ys = same_rest f b xs ys (λ k d low. p (suc k) d (omega (arith, low))) (λ k d low. q (suc k) d (omega (arith, low))) g.1 (subst (λ z. GoesAround R f (z ∷ ys)) next h.1) in
      ap (λ z. z ∷ xs) (sym next) ∙ ap (λ zs. c ∷ zs) rest

  pub one_ring : (start : ℕ) (xs ys : List ℕ) → IsRingFrom R start xs → IsRingFrom R start ys → xs ≡ ys
  one_ring start [] ys x y = absurd x
  one_ring start (f ∷ xs) [] x y = absurd y
  one_ring start (f ∷ xs) (g ∷ ys) x y =
      let same : g ≡ f = first (cases_lt x.0.0 y.0.0) in
      ap (λ z. z ∷ xs) (sym same) ∙ ap (λ zs. g ∷ zs)
      (same_rest f f xs ys x.1 (subst (λ z. All (λ k. z < k) ys) same y.1) x.2 (subst (λ z. GoesAround R z (z ∷ ys)) same y.2))
    where
      first : (x.0.0 < y.0.0) ⊎ (y.0.0 ≤ x.0.0) → g ≡ f
      first (inl h) = sym (first_of_longer start f g x.0.0 y.0.0 xs ys (omega (arith, h)) x.0.1 y.0.1 x.1 x.2 y.1 y.2)
      first (inr h) = first_of_longer start g f y.0.0 x.0.0 ys xs h y.0.1 x.0.1 y.1 y.2 x.1 x.2
