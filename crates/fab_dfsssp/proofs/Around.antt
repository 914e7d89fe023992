-- The nodes around a ring are reached layer by layer, and the ring is built step by step.
use Rattle.std.proofs.Common.{◌≡◌, ℕ, zero, suc, ◌+◌, ◌<◌, ◌≤◌, List, [], ◌∷◌, ◌++◌, sym, ◌∙◌, ap, subst, refl, inl, inr, arith, append_assoc, All}
use Rattle.std.specs.Prelude.{slice_index_or, length}
use Rattle.std.proofs.lemmas.Bool.{cases_lt}
use Rattle.std.proofs.lemmas.List.{get_or_past}
use Rattle.std.proofs.lemmas.List.Elements.{Contains-get_or}
use Rattle.fab_graph.specs.Walks.{Walk, IsEdge, IsOnClosedWalk}
use Rattle.fab_graph.specs.Least.{IsLeast}
use Rattle.fab_graph.specs.Rings.{Returns, IsNearness, IsNearer, ReturnsByLeast, IsFirstRing}
use Rattle.fab_graph.proofs.Graphs
use Rattle.fab_graph.proofs.Same.{same_first_ring, same_closed}
use Rattle.fab_rings.specs.EdgeList.{EdgeList}
use Rattle.fab_rings.specs.Layers.{times}
use Rattle.fab_rings.specs.Nearness.{near_of, AreNear, StandsAtDistance, IsReaching, ReachesTails, IsRingSoFar}
use Rattle.fab_rings.specs.Neighbours.{predecessors_of}
use Rattle.fab_rings.proofs.EdgesOf.{predecessor_edge, predecessor_there}
use Rattle.fab_rings.proofs.Returning.ReachingLayers.{next_distance, all_reached}
use Rattle.fab_rings.proofs.Returning.RingSteps.{ring_is_first}
use Rattle.fab_rings.proofs.Times.{counts_there}
use Rattle.fab_dfsssp.specs.declared.counted_edges.CountedEdges.{CountedEdges}
use Rattle.fab_dfsssp.specs.Around.{AreNearAround}
use Rattle.fab_dfsssp.specs.CountedEdges.{IsCounted, list_at, IsWhole, IsListing}
use Rattle.fab_dfsssp.proofs.Counting.{listing_exists}

-- ---- layers

-- the tails that are listed are the predecessors, in another order
pub by_predecessors : (g : EdgeList) (e : CountedEdges) → IsWhole e → IsListing g e → (x distance : ℕ) (near new_near next new_next : List ℕ) → ReachesTails (list_at e.tails x) distance near new_near next new_next →
    ReachesTails (predecessors_of g.edges x) distance near new_near next new_next
by_predecessors g e whole lists x distance near new_near next new_next reaches = record {
  each = reaches.each;
  kept = reaches.kept;
  given = λ a none h. reaches.given a none (whole.tails.there x a ((lists.same a x).0 (predecessor_edge g.edges a x h)));
  others = λ a none never. reaches.others a none (never_listed a never);
  next_kept = reaches.next_kept;
  next_given = reaches.next_given;
  next_only = reaches.next_only;
  fewer = reaches.fewer;
}
  where
    never_listed : (a : ℕ) → times a (predecessors_of g.edges x) ≡ 0 → times a (list_at e.tails x) ≡ 0
    never_listed a never = elim (cases_lt 0 (times a (list_at e.tails x))) [
      | inl some ↦ absurd (omega (arith, never, predecessor_there g.edges a x ((lists.same a x).1 (whole.tails.only x a some))))
      | inr none ↦ omega (arith, none)
    ]

pub tails_low : (e : CountedEdges) → IsWhole e → (x : ℕ) → All (λ a. a < length e.heads) (list_at e.tails x)
tails_low e whole x k d low =
    let a : ℕ = slice_index_or (list_at e.tails x) k d in
    (whole.ends a x (whole.tails.only x a (counts_there a (list_at e.tails x) (Contains-get_or (list_at e.tails x) k d low)))).0

pub heads_low : (e : CountedEdges) → IsWhole e → (x : ℕ) → All (λ a. a < length e.heads) (list_at e.heads x)
heads_low e whole x k d low =
    let b : ℕ = slice_index_or (list_at e.heads x) k d in
    (whole.ends x b (whole.heads.only x b (counts_there b (list_at e.heads x) (Contains-get_or (list_at e.heads x) k d low)))).1

module _ (g : EdgeList) (end : ℕ) (near : List ℕ) where
  abbrev E : ℕ → ℕ → Type 0
  E = IsEdge g.edges

  -- once the end is reached
  pub end_reached : (next : List ℕ) (distance : ℕ) → IsReaching g end near [] next distance → 0 < near_of near end → AreNearAround g end near
  end_reached next distance reaching has =
      let later : IsReaching g end near next [] (distance + 1) = next_distance g end near next distance reaching in
      record {
        each = reaching.each;
        right = reaching.right;
        found = λ a n some few w. later.found a n some (omega (arith, few, reaching.low end)) w;
        none = λ not. absurd (omega (arith, has, not));
      }

  -- or all is
  pub nothing_left : (distance : ℕ) → IsReaching g end near [] [] distance → AreNearAround g end near
  nothing_left distance reaching =
      let all : AreNear g end near = all_reached g end near distance reaching in
      record {
        each = all.each;
        right = all.right;
        found = λ a n some few w. elim (cases_lt 0 (near_of near a)) [
          | inl has ↦ (has, (all.right a has).least n (some, w))
          | inr none ↦ absurd (all.others a n (omega (arith, none)) (some, w))
        ];
        none = λ not closed. all.others end (suc closed.0) not (omega arith, closed.1);
      }

-- ---- whether there is one

module _ (e : CountedEdges) (whole : IsWhole e) (first : ℕ) (near : List ℕ) (are : (g : EdgeList) → IsListing g e → AreNearAround g first near) where
  pub near_each : length near ≡ length e.heads
  near_each = let g = listing_exists e whole in (are g.0 g.1).each ∙ g.1.nodes

  pub no_ring : near_of near first ≡ 0 → ¬ IsOnClosedWalk (λ (b c : ℕ). IsCounted e b c) first
  no_ring none closed =
      let g = listing_exists e whole in
      (are g.0 g.1).none none (same_closed (λ (b c : ℕ). IsCounted e b c) (IsEdge g.0.edges) (λ b c. ((g.1.same b c).1, (g.1.same b c).0)) first closed)
