-- A tree along whose dependencies numbers rise has walks that end.
use Rattle.std.proofs.Common.{◌≡◌, ℕ, zero, suc, ◌+◌, ◌<◌, ◌≤◌, List, [], ◌∷◌, Some, None, Option, refl, arith}
use Rattle.fab_model.specs.Topology.{Topology}
use Rattle.fab_tables.specs.Route.{tip}
use Rattle.fab_tables.specs.Trees.{next}
use Rattle.fab_tables.specs.TreeWalks.{GoesAlong, DependsInTree}

-- numbers that rise along the tree's dependencies and stay within a bound
pub record RisesIn (t : Topology) (tree : List (Option ℕ)) (number : ℕ → ℕ) (bound : ℕ) : Type 0 where
  pub rises : (c d : ℕ) → DependsInTree t tree c d → number c < number d
  pub within : (s c : ℕ) → next tree s ≡ Some c → number c ≤ bound

abbrev pub Ends : Topology → List (Option ℕ) → ℕ → Type 0
Ends t tree s = (cs : List ℕ) × GoesAlong t tree s cs

-- a channel of the switch, and what is behind it
ends_on : (t : Topology) (tree : List (Option ℕ)) (s c : ℕ) → next tree s ≡ Some c →
    ((d : ℕ) → next tree (tip t c) ≡ Some d → Ends t tree (tip t c)) → (after : Option ℕ) → next tree (tip t c) ≡ after → Ends t tree s
ends_on t tree s c has behind None none = (c ∷ [], (has, none))
ends_on t tree s c has behind (Some d) some =
    let rest : Ends t tree (tip t c) = behind d some in
    (c ∷ rest.0, (has, rest.1))

ends_behind : (t : Topology) (tree : List (Option ℕ)) (number : ℕ → ℕ) (bound : ℕ) → RisesIn t tree number bound → (fuel s c : ℕ) →
    next tree s ≡ Some c → bound < number c + fuel → Ends t tree s
ends_behind t tree number bound r zero s c has less = absurd (omega (arith, r.within s c has, less))
ends_behind t tree number bound r (suc fuel) s c has less = ends_on t tree s c has
    (λ d some. ends_behind t tree number bound r fuel (tip t c) d some (omega (arith, less, r.rises c d (s, has, some)))) (next tree (tip t c)) refl

pub rising_ends : (t : Topology) (tree : List (Option ℕ)) (number : ℕ → ℕ) (bound : ℕ) → RisesIn t tree number bound → (s : ℕ) → Ends t tree s
rising_ends t tree number bound r s = on (next tree s) refl
  where
    on : (first : Option ℕ) → next tree s ≡ first → Ends t tree s
    on None none = ([], none)
    on (Some c) some = ends_behind t tree number bound r (bound + 1) s c some (omega arith)
