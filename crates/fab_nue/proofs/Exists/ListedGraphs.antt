-- Graphs that a list of edges gives: they are joined, picked and gone through, and it is decided whether they are acyclic.
use Rattle.std.proofs.Common.{◌≡◌, ℕ, zero, suc, ◌<◌, ◌⊎◌, inl, inr, List, [], ◌∷◌, ◌++◌, sym, ap, subst, arith, Contains, Some, slice_get}
use Rattle.std.proofs.lemmas.Bool.{cases_lt}
use Rattle.std.proofs.lemmas.List.Elements.{Contains-append_left, Contains-append_right, Contains-append_cases}
use Rattle.std.proofs.lemmas.Option.{none-some, same_Some}
use Rattle.fab_graph.specs.Walks.{IsEdge, IsAcyclic}
use Rattle.fab_graph.proofs.Decided.{Decided}
use Rattle.fab_graph.proofs.FirstRings.{ring_or_acyclic}
use Rattle.fab_graph.proofs.Graphs.{ring_is_cyclic}
use Rattle.fab_graph.proofs.Members.{first, later, first_or_later}
use Rattle.fab_graph.proofs.Same.{same_acyclic}
use Rattle.fab_tables.specs.VirtualChannels.{Follow}

-- the edges of the list are those of the graph
pub record HasEdges (R : ℕ → ℕ → Type 0) : Type 0 where
  pub edges : List (ℕ × ℕ)
  pub to : (a b : ℕ) → IsEdge edges a b → R a b
  pub from : (a b : ℕ) → R a b → IsEdge edges a b

pub alike : (R S : ℕ → ℕ → Type 0) → ((a b : ℕ) → R a b → S a b) → ((a b : ℕ) → S a b → R a b) → HasEdges R → HasEdges S
alike R S to from x = record { edges = x.edges; to = λ a b e. to a b (x.to a b e); from = λ a b s. x.from a b (from a b s) }

pub no_edge : (R : ℕ → ℕ → Type 0) → ((a b : ℕ) → ¬ R a b) → HasEdges R
no_edge R none = record { edges = []; to = λ a b e. absurd (omega (arith, e.1)); from = λ a b r. absurd (none a b r) }

one_edge : (c d : ℕ) → HasEdges (λ a b. (c ≡ a) × (d ≡ b))
one_edge c d = record { edges = (c, d) ∷ []; to = to; from = from }
  where
    to : (a b : ℕ) → IsEdge ((c, d) ∷ []) a b → (c ≡ a) × (d ≡ b)
    to a b e = elim (first_or_later (c, d) [] (a, b) e) [
      | inl same ↦ (ap (λ (p : ℕ × ℕ). p.0) same, ap (λ (p : ℕ × ℕ). p.1) same)
      | inr none ↦ absurd (omega (arith, none.1))
    ]

    from : (a b : ℕ) → (c ≡ a) × (d ≡ b) → IsEdge ((c, d) ∷ []) a b
    from a b same =
        let P : ℕ → Type 0 = λ x. IsEdge ((c, d) ∷ []) x d in
        let Q : ℕ → Type 0 = λ y. IsEdge ((c, d) ∷ []) a y in
        subst Q same.1 (subst P same.0 (first (c, d) []))

pub joined : (R S : ℕ → ℕ → Type 0) → HasEdges R → HasEdges S → HasEdges (λ a b. R a b ⊎ S a b)
joined R S x y = record {
  edges = x.edges ++ y.edges;
  to = λ a b e. elim (Contains-append_cases x.edges y.edges (a, b) e) [ inl l ↦ inl (x.to a b l) | inr r ↦ inr (y.to a b r) ];
  from = λ a b e. elim e [ inl l ↦ Contains-append_left x.edges y.edges (a, b) (x.from a b l) | inr r ↦ Contains-append_right x.edges y.edges (a, b) (y.from a b r) ];
}

-- those of a graph, or none, by what is decided
pub where_holds : (P : Type 0) (R : ℕ → ℕ → Type 0) → Decided P → (P → HasEdges R) → HasEdges (λ a b. P × R a b)
where_holds P R (inl p) list = let x : HasEdges R = list p in record { edges = x.edges; to = λ a b e. (p, x.to a b e); from = λ a b r. x.from a b r.1 }
where_holds P R (inr not) list = no_edge (λ a b. P × R a b) (λ a b r. not r.0)

-- those of the graphs of all elements of a list
pub some_of : {A : Type 0} (xs : List A) (R : A → ℕ → ℕ → Type 0) → ((x : A) → Contains xs x → HasEdges (R x)) → HasEdges (λ a b. (x : A) × Contains xs x × R x a b)
some_of {A} [] R each = no_edge (λ a b. (x : A) × Contains [] x × R x a b) (λ a b r. omega (arith, r.1.1))
some_of {A} (x ∷ xs) R each =
    alike (λ a b. R x a b ⊎ ((y : A) × Contains xs y × R y a b)) (λ a b. (y : A) × Contains (x ∷ xs) y × R y a b) to from
    (joined (R x) (λ a b. (y : A) × Contains xs y × R y a b) (each x (first x xs)) (some_of xs R (λ y has. each y (later x xs y has))))
  where
    to : (a b : ℕ) → R x a b ⊎ ((y : A) × Contains xs y × R y a b) → (y : A) × Contains (x ∷ xs) y × R y a b
    to a b (inl here) = (x, first x xs, here)
    to a b (inr there) = (there.0, later x xs there.0 there.1, there.2)

    from : (a b : ℕ) → (y : A) × Contains (x ∷ xs) y × R y a b → R x a b ⊎ ((y : A) × Contains xs y × R y a b)
    from a b r = elim (first_or_later x xs r.0 r.1) [ inl e ↦ inl (subst (λ y. R y a b) (sym e) r.2) | inr has ↦ inr (r.0, has, r.2) ]

-- those of the graphs of all numbers below one
pub some_below : (n : ℕ) (R : ℕ → ℕ → ℕ → Type 0) → ((s : ℕ) → s < n → HasEdges (R s)) → HasEdges (λ a b. (s : ℕ) × (s < n) × R s a b)
some_below zero R each = no_edge (λ a b. (s : ℕ) × (s < zero) × R s a b) (λ a b r. omega (arith, r.1))
some_below (suc n) R each =
    alike (λ a b. R n a b ⊎ ((s : ℕ) × (s < n) × R s a b)) (λ a b. (s : ℕ) × (s < suc n) × R s a b) to from
    (joined (R n) (λ a b. (s : ℕ) × (s < n) × R s a b) (each n (omega arith)) (some_below n R (λ s low. each s (omega (arith, low)))))
  where
    to : (a b : ℕ) → R n a b ⊎ ((s : ℕ) × (s < n) × R s a b) → (s : ℕ) × (s < suc n) × R s a b
    to a b (inl here) = (n, omega arith, here)
    to a b (inr there) = (there.0, omega (arith, there.1), there.2)

    from : (a b : ℕ) → (s : ℕ) × (s < suc n) × R s a b → R n a b ⊎ ((s : ℕ) × (s < n) × R s a b)
    from a b r = elim (cases_lt r.0 n) [
      | inl less ↦ inr (r.0, less, r.2)
      | inr past ↦ (let same : r.0 ≡ n = omega (arith, past, r.1) in inl (subst (λ s. R s a b) same r.2))
    ]

-- the pairs that follow each other in a list
pub followers : (xs : List ℕ) → HasEdges (λ c d. Follow xs c d)
followers [] = no_edge (λ c d. Follow [] c d) (λ c d f. none-some c f.1)
followers (x ∷ []) = no_edge (λ c d. Follow (x ∷ []) c d) (λ c d f. none-some d f.2)
followers (x ∷ y ∷ xs) =
    alike (λ c d. ((x ≡ c) × (y ≡ d)) ⊎ Follow (y ∷ xs) c d) (λ c d. Follow (x ∷ y ∷ xs) c d) to from
    (joined (λ c d. (x ≡ c) × (y ≡ d)) (λ c d. Follow (y ∷ xs) c d) (one_edge x y) (followers (y ∷ xs)))
  where
    to : (c d : ℕ) → ((x ≡ c) × (y ≡ d)) ⊎ Follow (y ∷ xs) c d → Follow (x ∷ y ∷ xs) c d
    to c d (inl here) = (zero, ap (λ n. Some n) here.0, ap (λ n. Some n) here.1)
    to c d (inr there) = (suc there.0, there.1, there.2)

    from : (c d : ℕ) → Follow (x ∷ y ∷ xs) c d → ((x ≡ c) × (y ≡ d)) ⊎ Follow (y ∷ xs) c d
    from c d f = go f.0 f.1 f.2
      where
        go : (k : ℕ) → slice_get (x ∷ y ∷ xs) k ≡ Some c → slice_get (x ∷ y ∷ xs) (suc k) ≡ Some d → ((x ≡ c) × (y ≡ d)) ⊎ Follow (y ∷ xs) c d
        go zero a b = inl (same_Some x c a, same_Some y d b)
        go (suc k) a b = inr (k, a, b)

pub acyclic_decided : (R : ℕ → ℕ → Type 0) → HasEdges R → Decided (IsAcyclic R)
acyclic_decided R x = elim (ring_or_acyclic x.edges) [
  | inl ring ↦ inr (λ none. ring_is_cyclic (IsEdge x.edges) ring.0 ring.1 (same_acyclic R (IsEdge x.edges) (λ a b. (x.from a b, x.to a b)) none))
  | inr none ↦ inl (same_acyclic (IsEdge x.edges) R (λ a b. (x.to a b, x.from a b)) none)
]
