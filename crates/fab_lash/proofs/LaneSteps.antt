-- Pair after pair: what the lanes hold before the next pair, and what a try in a lane tells.
use Rattle.std.proofs.Common.{◌≡◌, ◌≢◌, ℕ, zero, suc, ◌+◌, ◌<◌, ◌≤◌, ◌⊎◌, inl, inr, length, refl, sym, subst, arith}
use Rattle.std.proofs.lemmas.Bool.{cases_eq, cases_lt}
use Rattle.fab_graph.specs.Walks.{Walk, SameGraph, HasClosedWalk, IsAcyclic}
use Rattle.fab_graph.proofs.Parts.{part_acyclic}
use Rattle.fab_graph.proofs.Same.{same_acyclic}
use Rattle.fab_model.specs.Topology.{Topology}
use Rattle.fab_model.specs.Connected.{LeadsTo}
use Rattle.fab_model.specs.WellFormed.{IsWellFormed}
use Rattle.fab_tables.specs.Entries.{Entries}
use Rattle.fab_tables.proofs.Joined.Tips.{tip_below}
use Rattle.fab_lash.specs.Pairs.{IsPair, ComesBefore, DependsOnPair}
use Rattle.fab_lash.specs.Layerings.{DependsEarlier, FitsLane, HasLayer, DependsInLane}
use Rattle.fab_lash.proofs.OneLayering.{AlikeBefore, alike_back, fits-same}

-- the end of a walk with a channel is a switch of the fabric
walk_end_below : (t : Topology) → IsWellFormed t → (n a b : ℕ) → Walk (LeadsTo t) (suc n) a b → b < length t.switches
walk_end_below t good zero a b w = omega (arith, tip_below t good w.1.0 w.1.1, w.1.3, w.2)
walk_end_below t good (suc n) a b w = walk_end_below t good n w.0 b w.2

pub pair_below : (t : Topology) → IsWellFormed t → (low high : ℕ) → IsPair t low high → high < length t.switches
pair_below t good low high pair = go pair.1.0 pair.1.1
  where
    go : (n : ℕ) → Walk (LeadsTo t) n low high → high < length t.switches
    go zero w = absurd (omega (arith, w, pair.0))
    go (suc n) w = walk_end_below t good n low high w

-- ---- the dependencies of earlier pairs, place after place

module _ (t : Topology) (e : Entries) (layer : ℕ → ℕ → ℕ) (lane : ℕ) where
  abbrev Earlier : ℕ → ℕ → ℕ → ℕ → Type 0
  Earlier low high c d = DependsEarlier t e layer lane low high c d

  -- before the first pair there are none
  pub earlier_none : (high c d : ℕ) → high ≤ 1 → ¬ Earlier 0 high c d
  earlier_none high c d few x = go x.3
    where
      go : ComesBefore x.0 x.1 0 high → ⊥
      go (inl less) = omega (arith, less)
      go (inr same) = omega (arith, same.0, same.1, x.2.0, few)

  -- no pair stands at the place: nothing comes in
  pub earlier_skip : (low high : ℕ) → ¬ IsPair t low high → SameGraph (λ (c d : ℕ). Earlier low high c d) (λ (c d : ℕ). Earlier low (high + 1) c d)
  earlier_skip low high none c d = (
    λ x. (x.0, x.1, x.2, grind (arith, x.3), x.4, x.5),
    λ x. (x.0, x.1, x.2, back x.0 x.1 x.2 x.3, x.4, x.5),
  )
    where
      back : (a b : ℕ) → IsPair t a b → ComesBefore a b low (high + 1) → ComesBefore a b low high
      back a b pair (inl less) = inl less
      back a b pair (inr same) = elim (cases_eq b high) [
        | inl e ↦ (let P : ℕ → Type 0 = λ z. IsPair t z b in let Q : ℕ → Type 0 = λ z. IsPair t low z in absurd (none (subst Q e (subst P same.0 pair))))
        | inr other ↦ inr (same.0, omega (arith, same.1, other))
      ]

  -- a pair in another lane: nothing comes in
  pub earlier_elsewhere : (low high : ℕ) → layer low high ≢ lane → SameGraph (λ (c d : ℕ). Earlier low high c d) (λ (c d : ℕ). Earlier low (high + 1) c d)
  earlier_elsewhere low high other c d = (
    λ x. (x.0, x.1, x.2, grind (arith, x.3), x.4, x.5),
    λ x. (x.0, x.1, x.2, back x.0 x.1 x.4 x.3, x.4, x.5),
  )
    where
      back : (a b : ℕ) → layer a b ≡ lane → ComesBefore a b low (high + 1) → ComesBefore a b low high
      back a b at (inl less) = inl less
      back a b at (inr same) = elim (cases_eq b high) [
        | inl e ↦ (let P : ℕ → Type 0 = λ z. layer z b ≡ lane in let Q : ℕ → Type 0 = λ z. layer low z ≡ lane in absurd (other (subst Q e (subst P same.0 at))))
        | inr differ ↦ inr (same.0, omega (arith, same.1, differ))
      ]

  -- a pair in the lane: its dependencies come in
  pub earlier_next : (low high : ℕ) → IsPair t low high → layer low high ≡ lane →
      SameGraph (λ (c d : ℕ). DependsOnPair t e low high c d ⊎ Earlier low high c d) (λ (c d : ℕ). Earlier low (high + 1) c d)
  earlier_next low high pair at c d = (to, λ x. back x (cases x.3))
    where
      to : DependsOnPair t e low high c d ⊎ Earlier low high c d → Earlier low (high + 1) c d
      to (inl on) = (low, high, pair, inr (refl, omega arith), at, on)
      to (inr x) = (x.0, x.1, x.2, grind (arith, x.3), x.4, x.5)

      cases : {a b : ℕ} → ComesBefore a b low (high + 1) → ComesBefore a b low high ⊎ ((a ≡ low) × (b ≡ high))
      cases {a} {b} before = grind (arith)

      back : (x : Earlier low (high + 1) c d) → ComesBefore x.0 x.1 low high ⊎ ((x.0 ≡ low) × (x.1 ≡ high)) → DependsOnPair t e low high c d ⊎ Earlier low high c d
      back x (inl before) = inr (x.0, x.1, x.2, before, x.4, x.5)
      back x (inr same) =
          let P : ℕ → Type 0 = λ z. DependsOnPair t e z x.1 c d in
          let Q : ℕ → Type 0 = λ z. DependsOnPair t e low z c d in
          inl (subst Q same.1 (subst P same.0 x.5))

  -- after the last pair of a row the next row begins
  pub earlier_row : (low first : ℕ) → IsWellFormed t → first ≤ low + 2 → SameGraph (λ (c d : ℕ). Earlier low (length t.switches) c d) (λ (c d : ℕ). Earlier (low + 1) first c d)
  earlier_row low first good few c d = ((λ x. (x.0, x.1, x.2, to x.3, x.4, x.5)), λ x. (x.0, x.1, x.2, back x.0 x.1 x.2 x.3, x.4, x.5))
    where
      to : {a b : ℕ} → ComesBefore a b low (length t.switches) → ComesBefore a b (low + 1) first
      to (inl less) = inl (omega (arith, less))
      to (inr same) = inl (omega (arith, same.0))

      back : (a b : ℕ) → IsPair t a b → ComesBefore a b (low + 1) first → ComesBefore a b low (length t.switches)
      back a b pair (inl less) = elim (cases_lt a low) [
        | inl before ↦ inl before
        | inr here ↦ inr (omega (arith, less, here), pair_below t good a b pair)
      ]
      back a b pair (inr same) = absurd (omega (arith, same.0, same.1, pair.0, few))

  -- after the last row they are those of the lane
  pub earlier_all : (high : ℕ) → IsWellFormed t → SameGraph (λ (c d : ℕ). Earlier (length t.switches) high c d) (λ (c d : ℕ). DependsInLane t e layer lane c d)
  earlier_all high good c d = (
    λ x. (x.0, x.1, x.2, x.4, x.5),
    λ x. (x.0, x.1, x.2, inl (omega (arith, x.2.0, pair_below t good x.0 x.1 x.2)), x.3, x.4),
  )

  -- ---- a try of a pair in the lane, where R are the dependencies that it holds
  module _ (low high : ℕ) (R : ℕ → ℕ → Type 0) (holds : SameGraph R (λ (c d : ℕ). Earlier low high c d)) where
    -- with all of the pair's no walk is closed
    pub try_fits : (T : ℕ → ℕ → Type 0) → SameGraph T (λ (c d : ℕ). DependsOnPair t e low high c d ⊎ R c d) → IsAcyclic T → FitsLane t e layer low high lane
    try_fits T all acyclic =
        same_acyclic T (λ (c d : ℕ). DependsOnPair t e low high c d ⊎ Earlier low high c d) (λ c d. ((λ x. over c d ((all c d).0 x)), λ x. (all c d).1 (back c d x))) acyclic
      where
        over : (c d : ℕ) → DependsOnPair t e low high c d ⊎ R c d → DependsOnPair t e low high c d ⊎ Earlier low high c d
        over c d (inl on) = inl on
        over c d (inr x) = inr ((holds c d).0 x)

        back : (c d : ℕ) → DependsOnPair t e low high c d ⊎ Earlier low high c d → DependsOnPair t e low high c d ⊎ R c d
        back c d (inl on) = inl on
        back c d (inr x) = inr ((holds c d).1 x)

    -- with some of them a walk is closed
    pub try_fails : (T : ℕ → ℕ → Type 0) → ((c d : ℕ) → T c d → DependsOnPair t e low high c d ⊎ R c d) → HasClosedWalk T → ¬ FitsLane t e layer low high lane
    try_fails T some closed fits =
        part_acyclic T (λ (c d : ℕ). DependsOnPair t e low high c d ⊎ Earlier low high c d) (λ c d x. over c d (some c d x)) fits closed.0 closed.1
      where
        over : (c d : ℕ) → DependsOnPair t e low high c d ⊎ R c d → DependsOnPair t e low high c d ⊎ Earlier low high c d
        over c d (inl on) = inl on
        over c d (inr x) = inr ((holds c d).0 x)

-- ---- layers

-- the least lane that the pair fits is its layer
pub layer_found : (t : Topology) (e : Entries) (count lane low high : ℕ) (layer : ℕ → ℕ → ℕ) → layer low high ≡ lane → lane < count → FitsLane t e layer low high lane →
    ((other : ℕ) → other < lane → ¬ FitsLane t e layer low high other) → HasLayer t e count layer low high
layer_found t e count lane low high layer is below fits none = (
  record {
    holds = let P : ℕ → Type 0 = λ l. FitsLane t e layer low high l in subst P (sym is) fits;
    least = λ other x. elim (cases_lt other lane) [ inl less ↦ absurd (none other less x) | inr more ↦ omega (arith, is, more) ];
  },
  omega (arith, is, below),
)

-- layers that agree on the pair and before it are its layers alike
pub has_layer-same : (t : Topology) (e : Entries) (count low high : ℕ) (x y : ℕ → ℕ → ℕ) → AlikeBefore t x y low high → x low high ≡ y low high → HasLayer t e count x low high → HasLayer t e count y low high
has_layer-same t e count low high x y same here has = (
  let P : ℕ → Type 0 = λ l. FitsLane t e y low high l in
      record {
        holds = subst P here (fits-same t e x y low high same (x low high) has.0.holds);
        least = λ lane fits. omega (arith, has.0.least lane (fits-same t e y x low high (alike_back t x y low high same) lane fits), here);
      },
  omega (arith, has.1, here),
)
