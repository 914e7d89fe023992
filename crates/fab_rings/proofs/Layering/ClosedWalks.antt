-- Nodes that are not taken, each of which has such a predecessor, lie behind a closed walk.
use Rattle.std.proofs.Common.{◌≡◌, ℕ, zero, suc, ◌+◌, ◌<◌, true, false, eqb, List, [], ◌∷◌, length, ◌∙◌, sym, ap, refl, inl, inr, ◌⊎◌, arith}
use Rattle.std.specs.List.{list_any, IsDistinct, AllByRecursion}
use Rattle.std.proofs.lemmas.Bool.{eqb-true, eq-eqb, cases_lt, cases_Bool, or_parts, or_cases, or_left}
use Rattle.std.proofs.lemmas.List.{get_or_past}
use Rattle.std.proofs.lemmas.Map.Keys.{IsDistinct-cons}
use Rattle.std.proofs.lemmas.Map.Steps.{length-le_from_distinct_below}
use Rattle.fab_graph.specs.Walks.{Walk, IsEdge, HasClosedWalk}
use Rattle.fab_rings.specs.EdgeList.{EdgeList, AreNodeLevels}
use Rattle.fab_rings.specs.Layers.{level_of, AreLayers}

all_others : (x : ℕ) (xs : List ℕ) → list_any (eqb x) xs ≡ false → AllByRecursion (λ y. eqb x y ≡ false) xs
all_others x [] h = tt
all_others x (y ∷ ys) h = let p : (eqb x y ≡ false) × (list_any (eqb x) ys ≡ false) = or_parts (eqb x y) (list_any (eqb x) ys) h in (p.0, all_others x ys p.1)

module _ (g : EdgeList) (levels : List ℕ) (layers : AreLayers g levels) where
  abbrev R : ℕ → ℕ → Type 0
  R = IsEdge g.edges

  -- different nodes that are not taken; from the first a walk leads to each
  record IsTrail (first : ℕ) (rest : List ℕ) : Type 0 where
    distinct : IsDistinct eqb (first ∷ rest)
    untaken : (q : ℕ) → list_any (eqb q) (first ∷ rest) ≡ true → level_of levels q ≡ 0
    walks : (q : ℕ) → list_any (eqb q) (first ∷ rest) ≡ true → (n : ℕ) × Walk R n first q

  there : (first : ℕ) (rest : List ℕ) → list_any (eqb first) (first ∷ rest) ≡ true
  there first rest = or_left (eqb first first) (list_any (eqb first) rest) (eq-eqb first first refl)

  longer : (first : ℕ) (rest : List ℕ) → IsTrail first rest → HasClosedWalk R ⊎ ((p : ℕ) × IsTrail p (first ∷ rest))
  longer first rest trail = go (cases_Bool (list_any (eqb from.0) (first ∷ rest)))
    where
      from : (a : ℕ) × IsEdge g.edges a first × (level_of levels a ≡ 0)
      from = layers.others first (trail.untaken first (there first rest))

      untaken : (q : ℕ) → list_any (eqb q) (from.0 ∷ first ∷ rest) ≡ true → level_of levels q ≡ 0
      untaken q h = elim (or_cases (eqb q from.0) (list_any (eqb q) (first ∷ rest)) h) [ inl same ↦ ap (level_of levels) (eqb-true q from.0 same) ∙ from.2 | inr later ↦ trail.untaken q later ]

      walks : (q : ℕ) → list_any (eqb q) (from.0 ∷ first ∷ rest) ≡ true → (n : ℕ) × Walk R n from.0 q
      walks q h = elim (or_cases (eqb q from.0) (list_any (eqb q) (first ∷ rest)) h) [
        | inl same ↦ (0, sym (eqb-true q from.0 same))
        | inr later ↦ (let w : (n : ℕ) × Walk R n first q = trail.walks q later in (suc w.0, (first, from.1, w.1)))
      ]

      go : (list_any (eqb from.0) (first ∷ rest) ≡ true) ⊎ (list_any (eqb from.0) (first ∷ rest) ≡ false) → HasClosedWalk R ⊎ ((p : ℕ) × IsTrail p (first ∷ rest))
      go (inl again) = inl (from.0, let w : (n : ℕ) × Walk R n first from.0 = trail.walks from.0 again in (w.0, (first, from.1, w.1)))
      go (inr new) = inr (from.0, record { distinct = IsDistinct-cons eqb from.0 (first ∷ rest) (all_others from.0 (first ∷ rest) new) trail.distinct; untaken = untaken; walks = walks })

  far : (k first : ℕ) (rest : List ℕ) → IsTrail first rest → HasClosedWalk R ⊎ ((p : ℕ) × (qs : List ℕ) × IsTrail p qs × (length qs ≡ length rest + k))
  far zero first rest trail = inr (first, rest, trail, omega arith)
  far (suc k) first rest trail = elim (longer first rest trail) [
    | inl closed ↦ inl closed
    | inr more ↦ elim (far k more.0 (first ∷ rest) more.1) [ inl closed ↦ inl closed | inr much ↦ inr (much.0, much.1, much.2, omega (arith, much.3)) ]
  ]

  below : (q : ℕ) → level_of levels q ≡ 0 → q < g.nodes
  below q none = elim (cases_lt q (length levels)) [ inl low ↦ omega (arith, layers.each) | inr past ↦ absurd (omega (arith, get_or_past levels q 1 past)) ]

  pub closed_behind : (b : ℕ) → level_of levels b ≡ 0 → HasClosedWalk R
  unfolding IsDistinct
  closed_behind b none = elim (far g.nodes b [] begin) [
    | inl closed ↦ closed
    | inr much ↦ absurd (omega (arith, length-le_from_distinct_below (much.0 ∷ much.1) g.nodes much.2.distinct (λ q h. below q (much.2.untaken q h)), much.3))
  ]
    where
      only : (q : ℕ) → list_any (eqb q) (b ∷ []) ≡ true → q ≡ b
      only q h = elim (or_cases (eqb q b) false h) [ inl same ↦ eqb-true q b same | inr never ↦ cc ]

      begin : IsTrail b []
      begin = record {
        distinct = (tt, tt);
        untaken = λ q h. ap (level_of levels) (only q h) ∙ none;
        walks = λ q h. (0, sym (only q h));
      }

  -- where all are taken, each has its level
  pub all_taken : ((b : ℕ) → b < g.nodes → 0 < level_of levels b) → AreNodeLevels g levels
  all_taken taken = record {
    each = layers.each;
    levels = record { positive = positive; above = λ a b edge. (layers.rises a b edge (positive b)).1; attained = layers.attained };
  }
    where
      positive : (b : ℕ) → 0 < level_of levels b
      positive b = elim (cases_lt b g.nodes) [ inl low ↦ taken b low | inr past ↦ omega (arith, get_or_past levels b 1 (omega (arith, layers.each))) ]
