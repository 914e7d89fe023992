-- Worked examples. On PAIR Min Hop sends LIDs 2 and 3 by port 1 and LID 4 by port 2, and DOR all by port 1.
use Rattle.std.proofs.Common.{◌≡◌, ℕ, zero, suc, ◌<◌, ◌≤◌, [], ◌∷◌, inl, inr, refl, arith, slice_index, slice_index_or}
use Rattle.fab_graph.specs.Least.{IsLeast, IsNotAfter}
use Rattle.fab_graph.specs.Walks.{Walk}
use Rattle.fab_model.specs.Connected.{LeadsTo}
use Rattle.fab_tables.proofs.Examples.Fabrics.{channel}
use Rattle.fab_tables.proofs.Examples.MoreFabrics.{pair, pair_balanced}
use Rattle.fab_hops.specs.HopCounts.{IsHopCount}
use Rattle.fab_balance.specs.Eligible.{LeadsNearer}
use Rattle.fab_balance.specs.Loads.{port_load, IsPicked}

-- the loads of the first switch's ports at LID 3, and at LID 4
no_load_at_3 : port_load pair pair_balanced 0 3 1 ≡ 0
no_load_at_3 = refl

load_at_4 : port_load pair pair_balanced 0 4 1 ≡ 1
load_at_4 = refl

no_load_at_4 : port_load pair pair_balanced 0 4 2 ≡ 0
no_load_at_4 = refl

-- so at LID 4 port 2 comes before port 1
pub second_port : IsNotAfter (λ p. port_load pair pair_balanced 0 4 p) 2 1
second_port = inl (omega arith)

one_hop : IsHopCount pair 0 1 1
one_hop = record { holds = (1, (channel 0 1 1 1, (0, omega arith, refl), refl, refl), refl); least = least }
  where
    least : (m : ℕ) → Walk (LeadsTo pair) m 0 1 → 1 ≤ m
    least zero w = absurd (omega (arith, w))
    least (suc m) w = omega arith

no_hop : IsHopCount pair 1 1 0
no_hop = record { holds = refl; least = λ m w. omega arith }

-- DOR's entry at the first switch for the LIDs of the second
pub least_port : IsLeast (λ p. LeadsNearer pair 0 1 p) 1
least_port = record { holds = record { channel = 0; hops = 0; leaves = refl; from_here = one_hop; from_tip = no_hop }; least = least }
  where
    least : (m : ℕ) → LeadsNearer pair 0 1 m → 1 ≤ m
    least zero h = let at = h.leaves in cc
    least (suc m) h = omega arith

-- with loads 4, 2, 2 at ports 1, 2, 3 and eligible ports 3, 2, 1 it is port 2
pub picked_2 : IsPicked (0 ∷ 4 ∷ 2 ∷ 2 ∷ []) (3 ∷ 2 ∷ 1 ∷ []) 2
picked_2 = record { listed = (1, omega arith, refl); least = least }
  where
    least : (k d : ℕ) → k < 3 → IsNotAfter (λ p. slice_index (0 ∷ 4 ∷ 2 ∷ 2 ∷ []) p) 2 (slice_index_or (3 ∷ 2 ∷ 1 ∷ []) k d)
    least zero d h = inr (refl, omega arith)
    least (suc zero) d h = inr (refl, omega arith)
    least (suc (suc zero)) d h = inl (omega arith)
    least (suc (suc (suc k))) d h = absurd (omega (arith, h))
