-- The edges to a node from others that are not taken.
use Rattle.std.proofs.Common.{◌≡◌, ◌≢◌, ℕ, ◌+◌, ◌<◌, Bool, true, false, List, [], ◌∷◌, length, ◌∙◌, ap, subst, refl, inl, inr, ◌⊎◌, arith, get_or-set_same, get_or-set_other, Contains}
use Rattle.std.specs.Prelude.{◌==◌, ◌&&◌, slice_set}
use Rattle.std.proofs.lemmas.Bool.{eq-eqb, ne_eqb, eqb-true, cases_eq, cases_lt, and_parts, and_from}
use Rattle.std.proofs.lemmas.List.Sums.{sum_by-cons}
use Rattle.fab_graph.specs.Walks.{IsEdge}
use Rattle.fab_rings.specs.Neighbours.{successors_of}
use Rattle.fab_rings.specs.Layers.{times, level_of, edges_left}
use Rattle.fab_rings.proofs.EdgesOf.{leaving, heads_if}
use Rattle.fab_rings.proofs.Times.{one_if, times_front, some_counted, counted_there}

counted : (p q : Bool) → q ≡ true → one_if (p && q) ≡ one_if p
counted true q e = ap one_if e
counted false q e = refl

not_counted : (p q : Bool) → q ≡ false → one_if (p && q) ≡ 0
not_counted true q e = ap one_if e
not_counted false q e = refl

left_front : (e : ℕ × ℕ) (es : List (ℕ × ℕ)) (levels : List ℕ) (b : ℕ) → edges_left (e ∷ es) levels b ≡ one_if ((e.1 == b) && (level_of levels e.0 == 0)) + edges_left es levels b
left_front e es levels b = sum_by-cons (λ (d : ℕ × ℕ). one_if ((d.1 == b) && (level_of levels d.0 == 0))) e es

-- once a node is taken, just the edges to its successors are gone
pub taken_away : (edges : List (ℕ × ℕ)) (levels : List ℕ) (x n b : ℕ) → x < length levels → level_of levels x ≡ 0 → 0 < n →
    edges_left edges levels b ≡ edges_left edges (slice_set levels x n) b + times b (successors_of edges x)
taken_away [] levels x n b low none some = refl
taken_away (e ∷ es) levels x n b low none some = go (cases_eq e.0 x) (taken_away es levels x n b low none some)
  where
    go : (e.0 ≡ x) ⊎ (e.0 ≢ x) → edges_left es levels b ≡ edges_left es (slice_set levels x n) b + times b (successors_of es x) →
        edges_left (e ∷ es) levels b ≡ edges_left (e ∷ es) (slice_set levels x n) b + times b (successors_of (e ∷ es) x)
    go (inl same) more =
        let before : level_of levels e.0 ≡ 0 = ap (level_of levels) same ∙ none in
        let after : level_of (slice_set levels x n) e.0 ≡ n = ap (level_of (slice_set levels x n)) same ∙ get_or-set_same levels x n 1 low in
        omega (
          arith,
          left_front e es levels b,
          counted (e.1 == b) (level_of levels e.0 == 0) (eq-eqb (level_of levels e.0) 0 before),
          left_front e es (slice_set levels x n) b,
          not_counted (e.1 == b) (level_of (slice_set levels x n) e.0 == 0) (ne_eqb (level_of (slice_set levels x n) e.0) 0 (λ z. absurd (omega arith))),
          ap (λ t. times b (heads_if e (leaving x es) t)) (eq-eqb e.0 x same),
          times_front b e.1 (successors_of es x),
          more,
        )
    go (inr other) more =
        omega (
          arith,
          left_front e es levels b,
          left_front e es (slice_set levels x n) b,
          ap (λ m. one_if ((e.1 == b) && (m == 0))) (get_or-set_other levels x e.0 n 1 other),
          ap (λ t. times b (heads_if e (leaving x es) t)) (ne_eqb e.0 x other),
          more,
        )

-- an edge that is left has a tail that is not taken
pub some_left : (edges : List (ℕ × ℕ)) (levels : List ℕ) (b : ℕ) → 0 < edges_left edges levels b → (a : ℕ) × IsEdge edges a b × (level_of levels a ≡ 0)
some_left edges levels b h =
    let some : (e : ℕ × ℕ) × Contains edges e × (((e.1 == b) && (level_of levels e.0 == 0)) ≡ true) = some_counted (λ (e : ℕ × ℕ). (e.1 == b) && (level_of levels e.0 == 0)) edges h in
    let both : ((some.0.1 == b) ≡ true) × ((level_of levels some.0.0 == 0) ≡ true) = and_parts (some.0.1 == b) (level_of levels some.0.0 == 0) some.2 in
    (some.0.0, subst (λ c. IsEdge edges some.0.0 c) (eqb-true some.0.1 b both.0) some.1, eqb-true (level_of levels some.0.0) 0 both.1)

-- and where none is left, all predecessors are taken
pub none_left : (edges : List (ℕ × ℕ)) (levels : List ℕ) (a b : ℕ) → edges_left edges levels b ≡ 0 → IsEdge edges a b → 0 < level_of levels a
none_left edges levels a b none edge = elim (cases_lt 0 (level_of levels a)) [
  | inl taken ↦ taken
  | inr not ↦
      absurd (omega (arith, none, counted_there (λ (e : ℕ × ℕ). (e.1 == b) && (level_of levels e.0 == 0)) edges (a, b) edge (and_from (b == b) (level_of levels a == 0) (eq-eqb b b refl) (eq-eqb (level_of levels a) 0 (omega arith)))))
]
