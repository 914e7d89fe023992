-- Levels that move with the paths over an edge are those of the next assignment.
use Rattle.std.proofs.Common.{◌≡◌, ℕ, ◌+◌, inl, inr, sym, ◌∙◌, ap, true, Some, None}
use Rattle.std.proofs.lemmas.Bool.{cases_Bool, both_ways, eq-eqb, and_from}
use Rattle.std.proofs.lemmas.Option.{none-some}
use Rattle.std.specs.Prelude.{◌==◌}
use Rattle.fab_model.specs.Topology.{Topology}
use Rattle.fab_model.specs.Connected.{IsConnectedTo}
use Rattle.fab_tables.specs.Entries.{Entries}
use Rattle.fab_tables.specs.Fit.{IsSource}
use Rattle.fab_tables.specs.LaneTables.{LaneTables, level}
use Rattle.fab_tables.specs.Route.{route}
use Rattle.fab_certify.specs.EnginePlans.{HasLevels}
use Rattle.fab_dfsssp.specs.Assignments.{contains_edge, is_over, moved}
use Rattle.fab_dfsssp.specs.Moving.{IsLevelOver, MovesLevels}
use Rattle.fab_dfsssp.proofs.RingEdges.{is_over_to, follow-contains, moved_over, moved_not}
use Rattle.fab_dfsssp.proofs.LevelEdges.{lane_of_level, level_of_lane}

pub levels_moved : (t : Topology) (e : Entries) (lane_of : ℕ → ℕ → ℕ) (lane : ℕ) (edge : ℕ × ℕ) (old new : LaneTables) → HasLevels t old (λ s lid n. n ≡ lane_of s lid) →
    MovesLevels t e lane edge old new → HasLevels t new (λ s lid n. n ≡ moved t e lane_of lane edge s lid)
levels_moved t e lane_of lane edge old new levels moves = record { levels = given; no_other = no_other }
  where
    given : (s lid : ℕ) → IsSource t s → IsConnectedTo t s lid → (n : ℕ) × (n ≡ moved t e lane_of lane edge s lid) × (level new s lid ≡ Some n)
    given s lid source connected = elim (cases_Bool (is_over t e lane_of lane edge s lid)) [
      | inl over ↦
          (let there = is_over_to t e lane_of lane edge s lid over in
          (lane + 1, sym (moved_over t e lane_of lane edge s lid over), moves.over s lid (at ∙ ap (λ n. Some n) there.0, follow-contains edge (route t e s lid).channels there.1)))
      | inr none ↦ (
        lane_of s lid,
        sym (moved_not t e lane_of lane edge s lid none),
        moves.stays s lid (λ x. both_ways (is_over t e lane_of lane edge s lid) none (on_lane x)) ∙ at,
      )
    ]
      where
        at : level old s lid ≡ Some (lane_of s lid)
        at = level_of_lane t e old lane_of levels s lid source connected

        on_lane : IsLevelOver t e old lane edge s lid → is_over t e lane_of lane edge s lid ≡ true
        on_lane x =
            and_from (lane_of s lid == lane) (contains_edge edge (route t e s lid).channels) (eq-eqb (lane_of s lid) lane (lane_of_level t e old lane_of levels s lid lane x.0)) x.1

    no_other : (s lid : ℕ) → ¬ (IsSource t s × IsConnectedTo t s lid) → level new s lid ≡ None
    no_other s lid apart =
        let none : level old s lid ≡ None = levels.no_other s lid apart in
        moves.stays s lid (λ x. none-some lane (sym none ∙ x.0)) ∙ none
