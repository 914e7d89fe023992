-- The counts of a lane's edges tell its graph, which only loses edges as paths move.
use Rattle.std.proofs.Common.{◌≡◌, ℕ, zero, suc, ◌+◌, ◌<◌, ◌≤◌, inl, inr, Bool, true, List, [], ◌∷◌, length, refl, sym, ◌∙◌, ap, subst, arith, Some, Contains}
use Rattle.std.specs.Prelude.{sum_by, nat_eq}
use Rattle.std.specs.Option.{option_eq}
use Rattle.std.proofs.lemmas.Bool.{cases_lt, cases_Bool, and_parts, and_from, eq-eqb}
use Rattle.std.proofs.lemmas.List.Sums.{sum_by-cons, get_or-le-sum_by}
use Rattle.std.proofs.lemmas.Option.{same_Some}
use Rattle.fab_graph.specs.Walks.{IsOnClosedWalk, IsAcyclic, SameGraph}
use Rattle.fab_graph.proofs.Parts.{walk_in}
use Rattle.fab_model.specs.Topology.{Topology, lids_of}
use Rattle.fab_model.specs.WellFormed.{IsWellFormed}
use Rattle.fab_tables.specs.Entries.{Entries}
use Rattle.fab_tables.specs.Fit.{LanesFit}
use Rattle.fab_tables.specs.LaneTables.{LaneTables, level}
use Rattle.fab_tables.specs.Route.{route}
use Rattle.fab_tables.proofs.Paths.Routes.{channel_there}
use Rattle.fab_dfsssp.specs.declared.counted_edges.CountedEdges.{CountedEdges}
use Rattle.fab_dfsssp.specs.Assignments.{contains_edge, count_below}
use Rattle.fab_dfsssp.specs.CountedEdges.{IsCounted}
use Rattle.fab_dfsssp.specs.LaneCounts.{CountsLane}
use Rattle.fab_dfsssp.specs.LaneEdges.{IsEdgeAtLevel, HasNoRingBelow}
use Rattle.fab_dfsssp.specs.LevelPaths.{is_level_over, level_paths_to}
use Rattle.fab_dfsssp.specs.Moving.{MovesLevels}
use Rattle.fab_dfsssp.proofs.Levels.{level_same, leveled}
use Rattle.fab_dfsssp.proofs.LevelsLeft.{over_or_not}
use Rattle.fab_dfsssp.proofs.RingEdges.{follow-contains, contains-follow}
use Rattle.fab_dfsssp.proofs.RoutesOnce.{one_if}

-- ---- a count above 0

some_below : (n : ℕ) (p : ℕ → Bool) → 0 < count_below n p → (k : ℕ) × (p k ≡ true)
some_below zero p some = absurd (omega (arith, some))
some_below (suc n) p some = elim (cases_Bool (p n)) [
  | inl is ↦ (n, is)
  | inr not ↦ some_below n p (omega (arith, some, ap one_if not))
]

counted_below : (n : ℕ) (p : ℕ → Bool) (k : ℕ) → k < n → p k ≡ true → 0 < count_below n p
counted_below zero p k low is = absurd (omega (arith, low))
counted_below (suc n) p k low is = elim (cases_lt k n) [
  | inl before ↦ omega (arith, counted_below n p k before is)
  | inr past ↦ (let here : k ≡ n = omega (arith, low, past) in omega (arith, ap one_if (sym (ap p here) ∙ is)))
]

some_term : (f : ℕ → ℕ) (xs : List ℕ) → 0 < sum_by f xs → (x : ℕ) × (0 < f x)
some_term f [] some = absurd (omega (arith, some))
some_term f (x ∷ xs) some = elim (cases_lt 0 (f x)) [
  | inl here ↦ (x, here)
  | inr none ↦ some_term f xs (omega (arith, some, none, sum_by-cons f x xs))
]

term_counts : (f : ℕ → ℕ) (xs : List ℕ) (x : ℕ) → Contains xs x → f x ≤ sum_by f xs
term_counts f xs x has = omega (arith, get_or-le-sum_by f xs has.0 x has.1, ap f has.2)

module _ (t : Topology) (e : Entries) (l : LaneTables) (lane : ℕ) (edges : CountedEdges) (counts : CountsLane t e l lane edges) where
  -- the edges that are counted are those of the level
  pub counted_edges : LanesFit t l → SameGraph (λ (c d : ℕ). IsCounted edges c d) (λ (c d : ℕ). IsEdgeAtLevel t e l lane c d)
  counted_edges fits c d = (forth, back)
    where
      forth : IsCounted edges c d → IsEdgeAtLevel t e l lane c d
      forth some =
          let lid : (lid : ℕ) × (0 < level_paths_to t e l lane (c, d) lid) = some_term (λ m. level_paths_to t e l lane (c, d) m) (lids_of t) (omega (arith, some, counts.counts (c, d))) in
          let s : (s : ℕ) × (is_level_over t e l lane (c, d) lid.0 s ≡ true) = some_below (length t.switches) (is_level_over t e l lane (c, d) lid.0) lid.1 in
          let both = and_parts (option_eq nat_eq (level l s.0 lid.0) (Some lane)) (contains_edge (c, d) (route t e s.0 lid.0).channels) s.1 in
          (lid.0, s.0, level_same (level l s.0 lid.0) lane both.0, contains-follow (c, d) (route t e s.0 lid.0).channels both.1)

      back : IsEdgeAtLevel t e l lane c d → IsCounted edges c d
      back x =
          let there : (x.1 < l.switches) × Contains l.in_use x.0 = leveled l x.1 x.0 lane x.2 in
          let on : option_eq nat_eq (level l x.1 x.0) (Some lane) ≡ true = ap (λ o. option_eq nat_eq o (Some lane)) x.2 ∙ eq-eqb lane lane refl in
          let over : is_level_over t e l lane (c, d) x.0 x.1 ≡ true =
          and_from (option_eq nat_eq (level l x.1 x.0) (Some lane)) (contains_edge (c, d) (route t e x.1 x.0).channels) on (follow-contains (c, d) (route t e x.1 x.0).channels x.3) in
          omega (
            arith,
            counts.counts (c, d),
            term_counts (λ m. level_paths_to t e l lane (c, d) m) (lids_of t) x.0 (subst (λ ns. Contains ns x.0) fits.in_use there.1),
            counted_below (length t.switches) (is_level_over t e l lane (c, d) x.0) x.1 (omega (arith, there.0, fits.switches)) over,
          )

-- where paths move, no edge comes to their lane
module _ (t : Topology) (e : Entries) (lane : ℕ) (edge : ℕ × ℕ) (old new : LaneTables) (moves : MovesLevels t e lane edge old new) where
  edge_before : (c d : ℕ) → IsEdgeAtLevel t e new lane c d → IsEdgeAtLevel t e old lane c d
  edge_before c d x = elim (over_or_not t e 0 lane edge old new moves x.1 x.0) [
    | inl over ↦ absurd (let same : lane + 1 ≡ lane = same_Some (lane + 1) lane (sym (moves.over x.1 x.0 over) ∙ x.2) in omega (arith, same))
    | inr not ↦ (x.0, x.1, sym (moves.stays x.1 x.0 not) ∙ x.2, x.3)
  ]

  pub still_no_ring : (channel : ℕ) → HasNoRingBelow t e old lane channel → HasNoRingBelow t e new lane channel
  still_no_ring channel none a low closed =
      none a low (closed.0, walk_in (λ (c d : ℕ). IsEdgeAtLevel t e new lane c d) (λ (c d : ℕ). IsEdgeAtLevel t e old lane c d) edge_before (suc closed.0) a a closed.1)

  -- and none is counted that was not
  pub counted_before : (more fewer : CountedEdges) → LanesFit t old → LanesFit t new → CountsLane t e old lane more → CountsLane t e new lane fewer → (c d : ℕ) → IsCounted fewer c d → IsCounted more c d
  counted_before more fewer fits still was is c d counted =
      (counted_edges t e old lane more was fits c d).1 (edge_before c d ((counted_edges t e new lane fewer is still c d).0 counted))

-- at first no channel is asked for, then one more, and at last all
pub no_ring_at_first : (t : Topology) (e : Entries) (l : LaneTables) (lane : ℕ) → HasNoRingBelow t e l lane 0
no_ring_at_first t e l lane a low closed = absurd (omega (arith, low))

pub one_more_without : (t : Topology) (e : Entries) (l : LaneTables) (lane channel : ℕ) → HasNoRingBelow t e l lane channel → ¬ IsOnClosedWalk (λ (c d : ℕ). IsEdgeAtLevel t e l lane c d) channel →
    HasNoRingBelow t e l lane (channel + 1)
one_more_without t e l lane channel below here a low closed = elim (cases_lt a channel) [
  | inl less ↦ below a less closed
  | inr past ↦ (let same : a ≡ channel = omega (arith, low, past) in here (subst (λ n. IsOnClosedWalk (λ (c d : ℕ). IsEdgeAtLevel t e l lane c d) n) same closed))
]

pub none_left : (t : Topology) (e : Entries) (l : LaneTables) (lane channel : ℕ) → IsWellFormed t → length t.channels ≤ channel → HasNoRingBelow t e l lane channel → IsAcyclic (λ (c d : ℕ). IsEdgeAtLevel t e l lane c d)
none_left t e l lane channel good all none a closed =
    let edge : IsEdgeAtLevel t e l lane a closed.1.0 = closed.1.1 in
    none a (omega (arith, channel_there t e edge.0 good edge.3.0 edge.1 a edge.3.1, all)) closed
