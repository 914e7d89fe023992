-- A component has one centre order, the same one for each of its switches.
use Rattle.std.proofs.Common.{◌≡◌, ℕ, ◌<◌, List, sym, subst, inl, inr, ◌⊎◌, arith}
use Rattle.fab_graph.proofs.Orders.{one_order}
use Rattle.fab_model.specs.Topology.{Topology}
use Rattle.fab_model.specs.Connected.{AreConnected}
use Rattle.fab_model.specs.WellFormed.{IsWellFormed}
use Rattle.fab_hops.specs.Centres.{IsNearerCentre, IsCentreOrder}
use Rattle.fab_hops.specs.Laws.{OneCentreOrder}
use Rattle.fab_hops.proofs.HopLaws.{one_eccentricity}
use Rattle.fab_hops.proofs.HopWalks.{connected_back, connected_through}

not_both : (m n a b : ℕ) → (m < n) ⊎ ((m ≡ n) × (a < b)) → (n < m) ⊎ ((n ≡ m) × (b < a)) → ⊥
not_both m n a b (inl x) (inl y) = omega arith
not_both m n a b (inl x) (inr y) = omega (arith, y.0)
not_both m n a b (inr x) (inl y) = omega (arith, x.0)
not_both m n a b (inr x) (inr y) = omega (arith, x.1, y.1)

-- of two switches, one is nearer the centre at most
nearer_once : (t : Topology) (a b : ℕ) → IsNearerCentre t a b → IsNearerCentre t b a → ⊥
nearer_once t a b x y =
    let near : x.near ≡ y.far = one_eccentricity t a x.near y.far x.first_has y.second_has in
    let far : x.far ≡ y.near = one_eccentricity t b x.far y.near x.second_has y.first_has in
    not_both x.near x.far a b x.before (subst (λ n. (n < x.near) ⊎ ((n ≡ x.near) × (b < a))) (sym far) (subst (λ n. (y.near < n) ⊎ ((y.near ≡ n) × (b < a))) (sym near) y.before))

pub one_centre_order : OneCentreOrder
one_centre_order t s x y p q = one_order (IsNearerCentre t) (nearer_once t) x y p.ordered q.ordered
    (λ a has. (q.component a).1 ((p.component a).0 has)) (λ a has. (p.component a).1 ((q.component a).0 has))

-- connected switches have the same orders
pub order_of_component : (t : Topology) → IsWellFormed t → (s u : ℕ) (x : List ℕ) → AreConnected t s u → IsCentreOrder t s x → IsCentreOrder t u x
order_of_component t good s u x joined p = record {
  component = λ a. (
    λ has. connected_through t u s a (connected_back t good s u joined) ((p.component a).0 has),
    λ w. (p.component a).1 (connected_through t s u a joined w),
  );
  ordered = p.ordered;
}
