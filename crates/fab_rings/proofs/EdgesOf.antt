-- The edges of a node, and the lists of its neighbours.
use Rattle.std.proofs.Common.{◌≡◌, ◌≢◌, ℕ, zero, suc, ◌<◌, Bool, true, false, cond, List, [], ◌∷◌, length, map, ◌∙◌, sym, ap, subst, refl, inl, inr, ◌⊎◌, arith, Contains, filter, All}
use Rattle.std.specs.Prelude.{◌==◌, slice_index_or}
use Rattle.std.proofs.lemmas.Bool.{eq-eqb, ne_eqb, cases_eq}
use Rattle.std.proofs.lemmas.List.Elements.{All-map, All-filter}
use Rattle.fab_graph.specs.Walks.{IsEdge}
use Rattle.fab_rings.specs.EdgeList.{EdgeList, IsGraph}
use Rattle.fab_rings.specs.Neighbours.{successors_of, predecessors_of}
use Rattle.fab_rings.specs.Layers.{times}
use Rattle.fab_rings.proofs.Times.{times_front, none_if_other, counts_there}

abbrev pub leaving : ℕ → List (ℕ × ℕ) → List (ℕ × ℕ)
leaving a es = filter (λ (d : ℕ × ℕ). d.0 == a) es

abbrev pub entering : ℕ → List (ℕ × ℕ) → List (ℕ × ℕ)
entering b es = filter (λ (d : ℕ × ℕ). d.1 == b) es

abbrev pub heads_if : (ℕ × ℕ) → List (ℕ × ℕ) → Bool → List ℕ
heads_if e rest t = map (λ (d : ℕ × ℕ). d.1) (cond t (e ∷ rest) rest)

abbrev tails_if : (ℕ × ℕ) → List (ℕ × ℕ) → Bool → List ℕ
tails_if e rest t = map (λ (d : ℕ × ℕ). d.0) (cond t (e ∷ rest) rest)

later : {A : Type 0} (y : A) (xs : List A) (x : A) → Contains xs x → Contains (y ∷ xs) x
later y xs x has = (suc has.0, omega (arith, has.1), has.2)

-- the neighbours of a node are those at the other ends of its edges
pub successor_edge : (edges : List (ℕ × ℕ)) (a b : ℕ) → 0 < times b (successors_of edges a) → IsEdge edges a b
successor_edge [] a b h = absurd (omega arith)
successor_edge (e ∷ es) a b h = go (cases_eq e.0 a) (cases_eq e.1 b) (successor_edge es a b)
  where
    go : (e.0 ≡ a) ⊎ (e.0 ≢ a) → (e.1 ≡ b) ⊎ (e.1 ≢ b) → (0 < times b (successors_of es a) → IsEdge es a b) → IsEdge (e ∷ es) a b
    go (inl same) (inl at) more = (0, omega arith, ap (λ (n : ℕ). (n, e.1)) same ∙ ap (λ (n : ℕ). (a, n)) at)
    go (inl same) (inr off) more = later e es (a, b) (more (omega (arith, h, ap (λ t. times b (heads_if e (leaving a es) t)) (eq-eqb e.0 a same), times_front b e.1 (successors_of es a), none_if_other e.1 b off)))
    go (inr other) at more = later e es (a, b) (more (omega (arith, h, ap (λ t. times b (heads_if e (leaving a es) t)) (ne_eqb e.0 a other))))

pub predecessor_edge : (edges : List (ℕ × ℕ)) (a b : ℕ) → 0 < times a (predecessors_of edges b) → IsEdge edges a b
predecessor_edge [] a b h = absurd (omega arith)
predecessor_edge (e ∷ es) a b h = go (cases_eq e.0 a) (cases_eq e.1 b) (predecessor_edge es a b)
  where
    go : (e.0 ≡ a) ⊎ (e.0 ≢ a) → (e.1 ≡ b) ⊎ (e.1 ≢ b) → (0 < times a (predecessors_of es b) → IsEdge es a b) → IsEdge (e ∷ es) a b
    go (inl same) (inl at) more = (0, omega arith, ap (λ (n : ℕ). (n, e.1)) same ∙ ap (λ (n : ℕ). (a, n)) at)
    go (inr off) (inl at) more = later e es (a, b) (more (omega (arith, h, ap (λ t. times a (tails_if e (entering b es) t)) (eq-eqb e.1 b at), times_front a e.0 (predecessors_of es b), none_if_other e.0 a off)))
    go same (inr other) more = later e es (a, b) (more (omega (arith, h, ap (λ t. times a (tails_if e (entering b es) t)) (ne_eqb e.1 b other))))

-- what stands in a list and passes the test stands in the filtered list, and its image in the mapped one
filtered_there : {A : Type 0} (p : A → Bool) (xs : List A) (x : A) → Contains xs x → p x ≡ true → Contains (filter p xs) x
filtered_there p [] x has is = absurd (omega (arith, has.1))
filtered_there {A} p (y ∷ ys) x has is = go has.0 has.1 has.2 (λ h. filtered_there p ys x h is)
  where
    kept : Contains (filter p ys) x → Contains (filter p (y ∷ ys)) x
    kept h = elim (p y) as (λ b. Contains (cond b (y ∷ filter p ys) (filter p ys)) x) [ true ↦ later y (filter p ys) x h | false ↦ h ]

    go : (k : ℕ) → k < length (y ∷ ys) → slice_index_or (y ∷ ys) k x ≡ x → (Contains ys x → Contains (filter p ys) x) → Contains (filter p (y ∷ ys)) x
    go zero low e rest = subst (λ b. Contains (cond b (y ∷ filter p ys) (filter p ys)) x) (sym (ap p e ∙ is)) (0, omega arith, e)
    go (suc k) low e rest = kept (rest (k, omega arith, e))

mapped_there : {A B : Type 0} (f : A → B) (xs : List A) (x : A) → Contains xs x → Contains (map f xs) (f x)
mapped_there f [] x has = absurd (omega (arith, has.1))
mapped_there {A} {B} f (y ∷ ys) x has = go has.0 has.1 has.2 (mapped_there f ys x)
  where
    go : (k : ℕ) → k < length (y ∷ ys) → slice_index_or (y ∷ ys) k x ≡ x → (Contains ys x → Contains (map f ys) (f x)) → Contains (map f (y ∷ ys)) (f x)
    go zero low e rest = (0, omega arith, ap f e)
    go (suc k) low e rest = later (f y) (map f ys) (f x) (rest (k, omega arith, e))

pub successor_there : (edges : List (ℕ × ℕ)) (a b : ℕ) → IsEdge edges a b → 0 < times b (successors_of edges a)
successor_there edges a b edge =
    counts_there b (successors_of edges a) (mapped_there (λ (d : ℕ × ℕ). d.1) (leaving a edges) (a, b) (filtered_there (λ (d : ℕ × ℕ). d.0 == a) edges (a, b) edge (eq-eqb a a refl)))

pub predecessor_there : (edges : List (ℕ × ℕ)) (a b : ℕ) → IsEdge edges a b → 0 < times a (predecessors_of edges b)
predecessor_there edges a b edge =
    counts_there a (predecessors_of edges b) (mapped_there (λ (d : ℕ × ℕ). d.0) (entering b edges) (a, b) (filtered_there (λ (d : ℕ × ℕ). d.1 == b) edges (a, b) edge (eq-eqb b b refl)))

-- both ends of an edge are nodes
pub ends_low : (g : EdgeList) → IsGraph g → (a b : ℕ) → IsEdge g.edges a b → (a < g.nodes) × (b < g.nodes)
ends_low g kept a b edge = subst (λ (e : ℕ × ℕ). (e.0 < g.nodes) × (e.1 < g.nodes)) edge.2 (kept edge.0 (a, b) edge.1)

pub successors_low : (g : EdgeList) → IsGraph g → (a : ℕ) → All (λ b. b < g.nodes) (successors_of g.edges a)
successors_low g kept a = All-map (λ b. b < g.nodes) (λ (e : ℕ × ℕ). e.1) (leaving a g.edges)
    (All-filter (λ (e : ℕ × ℕ). e.0 == a) (λ (e : ℕ × ℕ). e.1 < g.nodes) g.edges (λ k d h. (kept k d h).1))

pub predecessors_low : (g : EdgeList) → IsGraph g → (b : ℕ) → All (λ a. a < g.nodes) (predecessors_of g.edges b)
predecessors_low g kept b = All-map (λ a. a < g.nodes) (λ (e : ℕ × ℕ). e.0) (entering b g.edges)
    (All-filter (λ (e : ℕ × ℕ). e.1 == b) (λ (e : ℕ × ℕ). e.0 < g.nodes) g.edges (λ k d h. (kept k d h).0))
