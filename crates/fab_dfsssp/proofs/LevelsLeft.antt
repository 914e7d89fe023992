-- The lanes that are left for the paths by their levels: fewer where paths over an edge of the lane move.
use Rattle.std.proofs.Common.{◌≡◌, ℕ, ◌+◌, ◌-◌, ◌<◌, ◌≤◌, ◌⊎◌, inl, inr, length, ◌∙◌, ap, arith, Some, None, Option}
use Rattle.std.specs.Prelude.{sum_by, Contains, nat_eq}
use Rattle.std.specs.Option.{option_eq}
use Rattle.std.proofs.lemmas.Bool.{cases_Bool, both_ways}
use Rattle.fab_model.specs.Topology.{Topology, lids_of}
use Rattle.fab_model.specs.WellFormed.{IsWellFormed}
use Rattle.fab_tables.specs.Entries.{Entries}
use Rattle.fab_tables.specs.LaneTables.{LaneTables, level}
use Rattle.fab_tables.specs.Route.{route}
use Rattle.fab_tables.proofs.Paths.FallingRoutes.{connected_below}
use Rattle.fab_tables.proofs.Verdicts.CertifiedLaws.{get_of}
use Rattle.fab_tables.proofs.Joined.Lids.{connected_in_use}
use Rattle.fab_certify.specs.EnginePlans.{HasLevels}
use Rattle.fab_dfsssp.specs.Assignments.{IsEdgeOfLane, contains_edge}
use Rattle.fab_dfsssp.specs.Moving.{IsLevelOver, MovesLevels}
use Rattle.fab_dfsssp.proofs.Falling.{sum_below, sum_below-le, sum_below-lt, sum_by-lt}
use Rattle.fab_dfsssp.proofs.Levels.{level_same, level_other}
use Rattle.fab_dfsssp.proofs.LevelEdges.{level_of_lane}
use Rattle.fab_dfsssp.proofs.RingEdges.{follow-contains}

abbrev pub left_of_level : ℕ → Option ℕ → ℕ
left_of_level count None = 0
left_of_level count (Some n) = count - 1 - n

abbrev pub left_to : Topology → ℕ → LaneTables → ℕ → ℕ
left_to t count l lid = sum_below (length t.switches) (λ s. left_of_level count (level l s lid))

abbrev pub levels_left : Topology → ℕ → LaneTables → ℕ
levels_left t count l = sum_by (λ lid. left_to t count l lid) (lids_of t)

module _ (t : Topology) (e : Entries) (count lane : ℕ) (edge : ℕ × ℕ) (old new : LaneTables) (moves : MovesLevels t e lane edge old new) where
  pub over_or_not : (s lid : ℕ) → IsLevelOver t e old lane edge s lid ⊎ (¬ IsLevelOver t e old lane edge s lid)
  over_or_not s lid = elim (cases_Bool (option_eq nat_eq (level old s lid) (Some lane))) [
    | inr other ↦ inr (λ x. level_other (level old s lid) lane other x.0)
    | inl on ↦ elim (cases_Bool (contains_edge edge (route t e s lid).channels)) [
      | inl there ↦ inl (level_same (level old s lid) lane on, there)
      | inr none ↦ inr (λ x. both_ways (contains_edge edge (route t e s lid).channels) none x.1)
    ]
  ]

  left_le : (s lid : ℕ) → left_of_level count (level new s lid) ≤ left_of_level count (level old s lid)
  left_le s lid = elim (over_or_not s lid) [
    | inl over ↦ omega (arith, ap (left_of_level count) (moves.over s lid over), ap (left_of_level count) over.0)
    | inr not ↦ omega (arith, ap (left_of_level count) (moves.stays s lid not))
  ]

  pub levels_fall : IsWellFormed t → (lane_of : ℕ → ℕ → ℕ) → HasLevels t old (λ s lid n. n ≡ lane_of s lid) → lane + 1 < count → IsEdgeOfLane t e lane_of lane edge.0 edge.1 →
      levels_left t count new < levels_left t count old
  levels_fall good lane_of levels further path =
      sum_by-lt (λ lid. left_to t count new lid) (λ lid. left_to t count old lid) (lids_of t)
      (λ lid. sum_below-le (length t.switches) (λ s. left_of_level count (level new s lid)) (λ s. left_of_level count (level old s lid)) (λ s. left_le s lid)) used.0 path.1
      (get_of (lids_of t) used.0 path.1 used.1 used.2)
      (sum_below-lt (length t.switches) (λ s. left_of_level count (level new s path.1)) (λ s. left_of_level count (level old s path.1)) (λ s. left_le s path.1) path.0 (connected_below t good path.0 path.1 path.3) less)
    where
      used : Contains (lids_of t) path.1
      used = connected_in_use t path.0 path.1 path.3

      at : level old path.0 path.1 ≡ Some lane
      at = level_of_lane t e old lane_of levels path.0 path.1 path.2 path.3 ∙ ap (λ n. Some n) path.4

      less : left_of_level count (level new path.0 path.1) < left_of_level count (level old path.0 path.1)
      less =
          omega (arith, further, ap (left_of_level count) (moves.over path.0 path.1 (at, follow-contains edge (route t e path.0 path.1).channels path.5)), ap (left_of_level count) at)
