-- Each step lets the lanes that are left for the paths fall, and the lanes below its own stay without rings.
use Rattle.std.proofs.Common.{◌≡◌, ℕ, zero, suc, ◌+◌, ◌-◌, ◌<◌, ◌≤◌, ◌⊎◌, inl, inr, List, [], ◌∷◌, length, sym, ◌∙◌, subst, arith, Some}
use Rattle.std.specs.Prelude.{slice_get, sum_by, Contains}
use Rattle.std.proofs.lemmas.Bool.{cases_lt}
use Rattle.std.proofs.lemmas.List.Sums.{sum_by-cons, sum_by-le-sum_by}
use Rattle.std.proofs.lemmas.Option.{none-some, same_Some}
use Rattle.fab_graph.specs.Walks.{HasClosedWalk, IsAcyclic}
use Rattle.fab_graph.specs.Rings.{IsFirstRing}
use Rattle.fab_graph.proofs.Parts.{part_acyclic}
use Rattle.fab_model.specs.Topology.{Topology, lids_of}
use Rattle.fab_model.specs.WellFormed.{IsWellFormed}
use Rattle.fab_tables.specs.Entries.{Entries}
use Rattle.fab_tables.proofs.Paths.FallingRoutes.{connected_below}
use Rattle.fab_tables.proofs.Verdicts.CertifiedLaws.{get_of}
use Rattle.fab_tables.proofs.Joined.Lids.{connected_in_use}
use Rattle.fab_dfsssp.specs.Assignments.{IsEdgeOfLane}
use Rattle.fab_dfsssp.specs.Breaking.{IsRingToBreak, Breaks}
use Rattle.fab_dfsssp.proofs.RingEdges.{ring_edge, is_over_from, moved_over, moved_either}

-- ---- sums

-- the sum over the numbers below n
abbrev pub sum_below : ℕ → (ℕ → ℕ) → ℕ
sum_below zero f = 0
sum_below (suc n) f = sum_below n f + f n

pub sum_below-le : (n : ℕ) (f g : ℕ → ℕ) → ((s : ℕ) → f s ≤ g s) → sum_below n f ≤ sum_below n g
sum_below-le zero f g le = omega arith
sum_below-le (suc n) f g le = omega (arith, sum_below-le n f g le, le n)

pub sum_below-lt : (n : ℕ) (f g : ℕ → ℕ) → ((s : ℕ) → f s ≤ g s) → (k : ℕ) → k < n → f k < g k → sum_below n f < sum_below n g
sum_below-lt zero f g le k h less = absurd (omega (arith, h))
sum_below-lt (suc n) f g le k h less = elim (cases_lt k n) [
  | inl before ↦ omega (arith, sum_below-lt n f g le k before less, le n)
  | inr past ↦
      (let same : k ≡ n = omega (arith, h, past) in
      let here : f n < g n = subst (λ x. f x < g x) same less in
      omega (arith, sum_below-le n f g le, here))
]

pub sum_by-lt : (f g : ℕ → ℕ) (xs : List ℕ) → ((x : ℕ) → f x ≤ g x) → (k x : ℕ) → slice_get xs k ≡ Some x → f x < g x → sum_by f xs < sum_by g xs
sum_by-lt f g [] le k x at less = absurd (none-some x at)
sum_by-lt f g (y ∷ xs) le zero x at less =
    let here : f y < g y = subst (λ z. f z < g z) (sym (same_Some y x at)) less in
    omega (arith, sum_by-cons f y xs, sum_by-cons g y xs, here, sum_by-le-sum_by f g xs le)
sum_by-lt f g (y ∷ xs) le (suc k) x at less = omega (arith, sum_by-cons f y xs, sum_by-cons g y xs, le y, sum_by-lt f g xs le k x at less)

-- ---- steps

-- how many lanes are left, summed over switches and LIDs
abbrev pub lanes_left : Topology → ℕ → (ℕ → ℕ → ℕ) → ℕ
lanes_left t count lane_of = sum_by (λ lid. sum_below (length t.switches) (λ s. count - 1 - lane_of s lid)) (lids_of t)

module _ (t : Topology) (e : Entries) (count : ℕ) (old new : ℕ → ℕ → ℕ) (step : Breaks t e count old new) where
  -- a path stays on its lane, or leaves the step's lane for the next one
  pub moves_or_stays : (s lid : ℕ) → ((old s lid ≡ step.lane) × (new s lid ≡ step.lane + 1)) ⊎ (new s lid ≡ old s lid)
  moves_or_stays s lid = elim (moved_either t e old step.lane step.edge s lid) [
    | inl moves ↦ inl (moves.0, step.moves s lid ∙ moves.1)
    | inr stays ↦ inr (step.moves s lid ∙ stays)
  ]

  left_falls : (s lid : ℕ) → count - 1 - new s lid ≤ count - 1 - old s lid
  left_falls s lid = elim (moves_or_stays s lid) [ inl moves ↦ omega (arith, moves.0, moves.1) | inr stays ↦ omega (arith, stays) ]

  -- the edge that is broken is one of the lane, so some path is over it
  pub edge_there : IsEdgeOfLane t e old step.lane step.edge.0 step.edge.1
  edge_there = ring_edge (λ c d. IsEdgeOfLane t e old step.lane c d) step.ring step.found.ring_is step.weakest.0 step.edge step.weakest.1

  pub lanes_fall : IsWellFormed t → lanes_left t count new < lanes_left t count old
  lanes_fall good =
      sum_by-lt (λ lid. sum_below (length t.switches) (λ s. count - 1 - new s lid)) (λ lid. sum_below (length t.switches) (λ s. count - 1 - old s lid)) (lids_of t)
      (λ lid. sum_below-le (length t.switches) (λ s. count - 1 - new s lid) (λ s. count - 1 - old s lid) (λ s. left_falls s lid)) used.0 edge_there.1
      (get_of (lids_of t) used.0 edge_there.1 used.1 used.2)
      (sum_below-lt (length t.switches) (λ s. count - 1 - new s edge_there.1) (λ s. count - 1 - old s edge_there.1) (λ s. left_falls s edge_there.1) edge_there.0
      (connected_below t good edge_there.0 edge_there.1 edge_there.3) less)
    where
      used : Contains (lids_of t) edge_there.1
      used = connected_in_use t edge_there.0 edge_there.1 edge_there.3

      moves : new edge_there.0 edge_there.1 ≡ step.lane + 1
      moves =
          step.moves edge_there.0 edge_there.1
          ∙ moved_over t e old step.lane step.edge edge_there.0 edge_there.1 (is_over_from t e old step.lane step.edge edge_there.0 edge_there.1 edge_there.4 edge_there.5)

      less : count - 1 - new edge_there.0 edge_there.1 < count - 1 - old edge_there.0 edge_there.1
      less = omega (arith, moves, edge_there.4, step.further)

  -- the lanes below had no ring and have none
  pub below_acyclic : (other : ℕ) → other < step.lane → IsAcyclic (λ (c d : ℕ). IsEdgeOfLane t e old other c d)
  below_acyclic other less a closed = omega (arith, less, step.found.lane_is.least other (a, closed))

  edge_before : (other : ℕ) → other < step.lane → (c d : ℕ) → IsEdgeOfLane t e new other c d → IsEdgeOfLane t e old other c d
  edge_before other less c d x = elim (moves_or_stays x.0 x.1) [
    | inl moves ↦ absurd (omega (arith, moves.1, x.4, less))
    | inr stays ↦ (x.0, x.1, x.2, x.3, sym stays ∙ x.4, x.5)
  ]

  pub below_stay_acyclic : (other : ℕ) → other < step.lane → IsAcyclic (λ (c d : ℕ). IsEdgeOfLane t e new other c d)
  below_stay_acyclic other less =
      part_acyclic (λ (c d : ℕ). IsEdgeOfLane t e new other c d) (λ (c d : ℕ). IsEdgeOfLane t e old other c d) (edge_before other less) (below_acyclic other less)

-- the first ring of a lane is the ring to break where no lane below has one
pub ring_to_break : (t : Topology) (e : Entries) (lane_of : ℕ → ℕ → ℕ) (lane : ℕ) (ring : List ℕ) → ((other : ℕ) → other < lane → IsAcyclic (λ (c d : ℕ). IsEdgeOfLane t e lane_of other c d)) →
    IsFirstRing (λ c d. IsEdgeOfLane t e lane_of lane c d) ring → IsRingToBreak t e lane_of lane ring
ring_to_break t e lane_of lane ring none first = record { lane_is = record { holds = closed ring first; least = least }; ring_is = first }
  where
    closed : (ring : List ℕ) → IsFirstRing (λ c d. IsEdgeOfLane t e lane_of lane c d) ring → HasClosedWalk (λ (c d : ℕ). IsEdgeOfLane t e lane_of lane c d)
    closed [] x = absurd x
    closed (f ∷ rest) x = (f, x.0.holds)

    least : (other : ℕ) → HasClosedWalk (λ (c d : ℕ). IsEdgeOfLane t e lane_of other c d) → lane ≤ other
    least other walk = elim (cases_lt other lane) [ inl less ↦ absurd (none other less walk.0 walk.1) | inr more ↦ more ]

-- a lane that no path has is without rings
pub unused_acyclic : (t : Topology) (e : Entries) (lane_of : ℕ → ℕ → ℕ) (lane : ℕ) → ((s lid : ℕ) → lane_of s lid < lane) → IsAcyclic (λ (c d : ℕ). IsEdgeOfLane t e lane_of lane c d)
unused_acyclic t e lane_of lane low a closed = let edge : IsEdgeOfLane t e lane_of lane a closed.1.0 = closed.1.1 in omega (arith, edge.4, low edge.0 edge.1)
