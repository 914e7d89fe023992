-- The steps end: at lanes without rings, or at a ring of the last lane. Each step lets the lanes that are left for the paths fall.
use Rattle.std.proofs.Common.{◌≡◌, ℕ, zero, suc, ◌+◌, ◌<◌, ◌≤◌, ◌⊎◌, inl, inr, List, length, ◌∙◌, subst, arith, Some, true, false}
use Rattle.std.specs.Prelude.{nat_eq}
use Rattle.std.specs.Option.{option_eq}
use Rattle.std.proofs.lemmas.Bool.{cases_lt, cases_Bool, both_ways}
use Rattle.fab_graph.specs.Walks.{IsAcyclic}
use Rattle.fab_graph.specs.Rings.{IsFirstRing}
use Rattle.fab_graph.proofs.Decided.{Decided, both}
use Rattle.fab_model.specs.Topology.{Topology, lids_of, is_source}
use Rattle.fab_model.specs.WellFormed.{IsFabric}
use Rattle.fab_tables.specs.Entries.{Entries}
use Rattle.fab_tables.specs.Fit.{IsSource}
use Rattle.fab_tables.specs.LaneTables.{LaneTables, level}
use Rattle.fab_tables.specs.Route.{route}
use Rattle.fab_tables.proofs.Joined.ConnectedDecided.{connected_to_decided}
use Rattle.fab_tables.proofs.Paths.FallingRoutes.{connected_below}
use Rattle.fab_certify.specs.EnginePlans.{AreEngineLanes}
use Rattle.fab_dfsssp.specs.Assigned.{IsAssigned, AreFirstLanes, IsBrokenBelow}
use Rattle.fab_dfsssp.specs.Assignments.{IsEdgeOfLane, contains_edge, paths_over}
use Rattle.fab_dfsssp.specs.Breaking.{ring_edges, IsFirstLeast, IsRingToBreak, NeedsLane}
use Rattle.fab_dfsssp.specs.BrokenLanes.{AreBrokenLanes}
use Rattle.fab_dfsssp.specs.Moving.{IsLevelOver, MovesLevels}
use Rattle.fab_dfsssp.proofs.Ending.{AcyclicBelow, below_first, below_next}
use Rattle.fab_dfsssp.proofs.Exists.Releveled.{releveled_exists}
use Rattle.fab_dfsssp.proofs.Exists.Rings.{lane_ring_or_acyclic, weakest_exists}
use Rattle.fab_dfsssp.proofs.Exists.StartLanes.{engine_lanes_exist}
use Rattle.fab_dfsssp.proofs.Falling.{lanes_left, lanes_fall, ring_to_break}
use Rattle.fab_dfsssp.proofs.Levels.{level_same, level_other}
use Rattle.fab_dfsssp.proofs.LanesStarted.{IsPath, lanes_started, first_broken}
use Rattle.fab_dfsssp.proofs.PathsMoved.{over_low, paths_moved}
use Rattle.fab_dfsssp.proofs.Releveling.{IsReleveled, IsOfFirst}
use Rattle.fab_dfsssp.proofs.StepsTaken.{step_taken, last_ring, steps_ended}

-- ---- what is decided

path_decided : (t : Topology) (s lid : ℕ) → Decided (IsPath t s lid)
path_decided t s lid = both _ _ (source (cases_Bool (is_source t s))) (connected_to_decided t s lid)
  where
    source : (is_source t s ≡ true) ⊎ (is_source t s ≡ false) → Decided (IsSource t s)
    source (inl is) = inl is
    source (inr none) = inr (λ is. both_ways (is_source t s) none is)

over_decided : (t : Topology) (e : Entries) (l : LaneTables) (lane : ℕ) (edge : ℕ × ℕ) (s lid : ℕ) → Decided (IsLevelOver t e l lane edge s lid)
over_decided t e l lane edge s lid = both _ _ (on (cases_Bool (option_eq nat_eq (level l s lid) (Some lane)))) (there (cases_Bool (contains_edge edge (route t e s lid).channels)))
  where
    on : (option_eq nat_eq (level l s lid) (Some lane) ≡ true) ⊎ (option_eq nat_eq (level l s lid) (Some lane) ≡ false) → Decided (level l s lid ≡ Some lane)
    on (inl is) = inl (level_same (level l s lid) lane is)
    on (inr other) = inr (level_other (level l s lid) lane other)

    there : (contains_edge edge (route t e s lid).channels ≡ true) ⊎ (contains_edge edge (route t e s lid).channels ≡ false) → Decided (contains_edge edge (route t e s lid).channels ≡ true)
    there (inl is) = inl is
    there (inr none) = inr (λ is. both_ways (contains_edge edge (route t e s lid).channels) none is)

module _ (t : Topology) (e : Entries) (count : ℕ) where
  -- the least lane with a ring, or none below a bound
  abbrev RingBelow : (ℕ → ℕ → ℕ) → ℕ → Type 0
  RingBelow lane_of n = (lane : ℕ) × (lane < n) × (ring : List ℕ) × IsRingToBreak t e lane_of lane ring

  ring_below : (lane_of : ℕ → ℕ → ℕ) (n : ℕ) → RingBelow lane_of n ⊎ AcyclicBelow t e lane_of n
  ring_below lane_of zero = inr (below_first t e lane_of)
  ring_below lane_of (suc n) = go (ring_below lane_of n) (lane_ring_or_acyclic t e lane_of n)
    where
      next : n + 1 ≡ suc n
      next = omega arith

      go : RingBelow lane_of n ⊎ AcyclicBelow t e lane_of n → ((ring : List ℕ) × IsFirstRing (λ c d. IsEdgeOfLane t e lane_of n c d) ring) ⊎ IsAcyclic (λ (c d : ℕ). IsEdgeOfLane t e lane_of n c d) →
          RingBelow lane_of (suc n) ⊎ AcyclicBelow t e lane_of (suc n)
      go (inl found) x = inl (found.0, omega (arith, found.1), found.2, found.3)
      go (inr below) (inl ring) = inl (n, omega arith, ring.0, ring_to_break t e lane_of n ring.0 below ring.1)
      go (inr below) (inr none) =
          inr (subst (λ k. AcyclicBelow t e lane_of k) next (below_next t e lane_of n (λ (c d : ℕ). IsEdgeOfLane t e lane_of n c d) (λ c d. (λ x. x, λ x. x)) none below))

module _ (t : Topology) (fabric : IsFabric t) (e : Entries) (count : ℕ) (few : (0 < count) × (count ≤ 15)) where
  -- ---- one step

  moves_exist : (old : LaneTables) (so_far : IsAssigned t e count old) (lane : ℕ) (edge : ℕ × ℕ) → lane + 1 < count → (new : LaneTables) × MovesLevels t e lane edge old new × IsReleveled t (λ s lid. IsLevelOver t e old lane edge s lid) (IsOfFirst (lids_of t) (length (lids_of t))) (lane + 1) old new
  moves_exist old so_far lane edge further =
      let made : (new : LaneTables) × IsReleveled t (λ s lid. IsLevelOver t e old lane edge s lid) (IsOfFirst (lids_of t) (length (lids_of t))) (lane + 1) old new =
      releveled_exists t (λ s lid. IsLevelOver t e old lane edge s lid) (over_decided t e old lane edge) (over_low t e lane edge old so_far.fits) (lane + 1) (omega (arith, further, few.1)) old so_far.fits so_far.maps in
      (made.0, paths_moved t e lane edge old so_far.fits (length (lids_of t)) made.0 (omega arith) made.1, made.1)

  abbrev After : (old : LaneTables) → IsAssigned t e count old → Type 0
  After old so_far = (new : LaneTables) × (next : IsAssigned t e count new) × (lanes_left t count next.lane_of < lanes_left t count so_far.lane_of)

  step_exists : (old : LaneTables) (so_far : IsAssigned t e count old) (lane : ℕ) (ring : List ℕ) → IsRingToBreak t e so_far.lane_of lane ring → lane + 1 < count → After old so_far
  step_exists old so_far lane ring found further =
      let edge : (edge : ℕ × ℕ) × IsFirstLeast (λ other. paths_over t e so_far.lane_of lane other) (ring_edges ring) edge =
      weakest_exists (λ c d. IsEdgeOfLane t e so_far.lane_of lane c d) (λ other. paths_over t e so_far.lane_of lane other) ring found.ring_is in
      let moved = moves_exist old so_far lane edge.0 further in
      let next : IsAssigned t e count moved.0 = step_taken t e count old so_far lane ring edge.0 moved.0 found further edge.1 moved.1 (moved.2.lane_count ∙ so_far.lane_count) moved.2.fits moved.2.maps in
      (moved.0, next, lanes_fall t e count so_far.lane_of next.lane_of next.after.2 fabric.rows)

  -- ---- the end

  abbrev Ended : Type 0
  Ended = ((l : LaneTables) × AreBrokenLanes t e count l) ⊎ ((ring : List ℕ) × NeedsLane t e count ring)

  steps_end : (bound : ℕ) (l : LaneTables) (so_far : IsAssigned t e count l) → lanes_left t count so_far.lane_of < bound → Ended
  steps_end zero l so_far low = absurd (omega (arith, low))
  steps_end (suc bound) l so_far low = elim (ring_below t e count so_far.lane_of count) [
    | inr none ↦ inl (l, steps_ended t e count l so_far few.0 none)
    | inl found ↦ elim (cases_lt (found.0 + 1) count) [
      | inr last ↦ inr (found.2, last_ring t e count l so_far found.0 found.2 found.3 (omega (arith, last, found.1)))
      | inl further ↦
          (let next : After l so_far = step_exists l so_far found.0 found.2 found.3 further in
          steps_end bound next.0 next.1 (omega (arith, next.2, low)))
    ]
  ]

  first_exists : (l : LaneTables) × IsAssigned t e count l
  first_exists =
      let engine : (l : LaneTables) × AreEngineLanes t count l = engine_lanes_exist t fabric count few in
      let started : (now : LaneTables) × IsReleveled t (IsPath t) (IsOfFirst (lids_of t) (length (lids_of t))) 0 engine.0 now =
      releveled_exists t (IsPath t) (path_decided t) (λ s lid path. connected_below t fabric.rows s lid path.1) 0 (omega arith) engine.0 engine.1.fits engine.1.maps in
      let first : AreFirstLanes t count started.0 = lanes_started t count (length (lids_of t)) engine.0 started.0 engine.1 (omega arith) started.1 in
      let broken : IsBrokenBelow t e count 0 started.0 = first_broken t e count started.0 first in
      (started.0, broken.assigned)

  pub broken_or_refused_exists : Ended
  broken_or_refused_exists = steps_end (lanes_left t count first_exists.1.lane_of + 1) first_exists.0 first_exists.1 (omega arith)
