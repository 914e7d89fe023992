-- Graphs with the same edges have the same walks, first ring and levels.
use Rattle.std.proofs.Common.{◌≡◌, ℕ, zero, suc, ◌+◌, List, [], ◌∷◌}
use Rattle.fab_graph.specs.Walks.{Walk, IsOnClosedWalk, IsAcyclic, SameGraph, Image}
use Rattle.fab_graph.specs.Least.{IsLeast}
use Rattle.fab_graph.specs.Rings.{Returns, IsNearness, IsNearer, ReturnsByLeast, IsFirstRing}
use Rattle.fab_graph.specs.Levels.{AreLevels}

pub swapped : {A : Type 0} (R S : A → A → Type 0) → SameGraph R S → SameGraph S R
swapped R S same a b = ((same a b).1, (same a b).0)

pub same_walk : {A : Type 0} (R S : A → A → Type 0) → SameGraph R S → (n : ℕ) (a b : A) → Walk R n a b → Walk S n a b
same_walk R S same zero a b w = w
same_walk R S same (suc n) a b w = (w.0, (same a w.0).0 w.1, same_walk R S same n w.0 b w.2)

pub same_closed : {A : Type 0} (R S : A → A → Type 0) → SameGraph R S → (a : A) → IsOnClosedWalk R a → IsOnClosedWalk S a
same_closed R S same a w = (w.0, same_walk R S same (suc w.0) a a w.1)

pub same_acyclic : {A : Type 0} (R S : A → A → Type 0) → SameGraph R S → IsAcyclic R → IsAcyclic S
same_acyclic R S same none a w = none a (same_closed S R (swapped R S same) a w)

-- the least number is that of any equivalent fact
pub same_least : (P Q : ℕ → Type 0) → ((n : ℕ) → P n → Q n) → ((n : ℕ) → Q n → P n) → (n : ℕ) → IsLeast P n → IsLeast Q n
same_least P Q to from n x = record { holds = to n x.holds; least = λ m q. x.least m (from m q) }

same_nearness : (R S : ℕ → ℕ → Type 0) → SameGraph R S → (f a n : ℕ) → IsNearness R f a n → IsNearness S f a n
same_nearness R S same f a n = same_least (Returns R f a) (Returns S f a)
    (λ m w. (w.0, same_walk R S same m a f w.1)) (λ m w. (w.0, same_walk S R (swapped R S same) m a f w.1)) n

same_nearer : (R S : ℕ → ℕ → Type 0) → SameGraph R S → (f a n b : ℕ) → IsNearer R f a n b → IsNearer S f a n b
same_nearer R S same f a n b x = ((same a b).0 x.0, same_nearness R S same f b n x.1)

same_rest : (R S : ℕ → ℕ → Type 0) → SameGraph R S → (f : ℕ) (xs : List ℕ) → ReturnsByLeast R f xs → ReturnsByLeast S f xs
same_rest R S same f [] x = x
same_rest R S same f (a ∷ []) x = same_nearness R S same f a 1 x
same_rest R S same f (a ∷ b ∷ rest) x = (
  x.0,
  x.1,
  same_nearness R S same f a (suc x.0) x.2,
  same_least (IsNearer R f a x.0) (IsNearer S f a x.0) (λ m. same_nearer R S same f a x.0 m) (λ m. same_nearer S R (swapped R S same) f a x.0 m) b x.3,
  same_rest R S same f (b ∷ rest) x.4,
)

pub same_first_ring : (R S : ℕ → ℕ → Type 0) → SameGraph R S → (xs : List ℕ) → IsFirstRing R xs → IsFirstRing S xs
same_first_ring R S same [] x = x
same_first_ring R S same (f ∷ rest) x =
    (same_least (IsOnClosedWalk R) (IsOnClosedWalk S) (λ m. same_closed R S same m) (λ m. same_closed S R (swapped R S same) m) f x.0, same_rest R S same f (f ∷ rest) x.1)

pub same_levels : {A : Type 0} (R S : A → A → Type 0) → SameGraph R S → (level : A → ℕ) → AreLevels R level → AreLevels S level
same_levels {A} R S same level x = record {
  positive = x.positive;
  above = λ a b s. x.above a b ((same a b).1 s);
  attained = λ b h. let p : (a : A) × R a b × (level b ≡ level a + 1) = x.attained b h in (p.0, (same p.0 b).0 p.1, p.2);
}

pub same_image : {A : Type 0} (number : A → ℕ) (R S : A → A → Type 0) → SameGraph R S → SameGraph (Image number R) (Image number S)
same_image number R S same m n = ((λ x. (x.0, x.1, (same x.0 x.1).0 x.2, x.3, x.4)), (λ x. (x.0, x.1, (same x.0 x.1).1 x.2, x.3, x.4)))
