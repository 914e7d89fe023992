-- Where the levels are those of an assignment, the edges of a level are the edges of the lane.
use Rattle.std.proofs.Common.{◌≡◌, ℕ, ◌⊎◌, inl, inr, sym, ◌∙◌, ap, true, false, Some}
use Rattle.std.proofs.lemmas.Bool.{cases_Bool, both_ways}
use Rattle.std.proofs.lemmas.Option.{none-some, same_Some}
use Rattle.fab_graph.specs.Walks.{SameGraph}
use Rattle.fab_model.specs.Topology.{Topology, is_source}
use Rattle.fab_model.specs.Connected.{IsConnectedTo}
use Rattle.fab_tables.specs.Entries.{Entries}
use Rattle.fab_tables.specs.Fit.{IsSource}
use Rattle.fab_tables.specs.LaneTables.{LaneTables, level}
use Rattle.fab_tables.proofs.Joined.ConnectedDecided.{connected_to_decided}
use Rattle.fab_certify.specs.EnginePlans.{HasLevels}
use Rattle.fab_dfsssp.specs.Assignments.{IsEdgeOfLane}
use Rattle.fab_dfsssp.specs.LaneEdges.{IsEdgeAtLevel}

module _ (t : Topology) (e : Entries) (l : LaneTables) (lane_of : ℕ → ℕ → ℕ) (levels : HasLevels t l (λ s lid n. n ≡ lane_of s lid)) where
  -- a level stands at a path alone
  pub level_of_path : (s lid n : ℕ) → level l s lid ≡ Some n → IsSource t s × IsConnectedTo t s lid
  level_of_path s lid n is = go (cases_Bool (is_source t s)) (connected_to_decided t s lid)
    where
      apart : ¬ (IsSource t s × IsConnectedTo t s lid) → ⊥
      apart other = none-some n (sym (levels.no_other s lid other) ∙ is)

      go : (is_source t s ≡ true) ⊎ (is_source t s ≡ false) → IsConnectedTo t s lid ⊎ (¬ IsConnectedTo t s lid) → IsSource t s × IsConnectedTo t s lid
      go (inl source) (inl connected) = (source, connected)
      go (inl source) (inr other) = absurd (apart (λ both. other both.1))
      go (inr none) x = absurd (apart (λ both. both_ways (is_source t s) none both.0))

  -- and is its lane
  pub lane_of_level : (s lid n : ℕ) → level l s lid ≡ Some n → lane_of s lid ≡ n
  lane_of_level s lid n is =
      let path : IsSource t s × IsConnectedTo t s lid = level_of_path s lid n is in
      let given : (m : ℕ) × (m ≡ lane_of s lid) × (level l s lid ≡ Some m) = levels.levels s lid path.0 path.1 in
      sym given.1 ∙ same_Some given.0 n (sym given.2 ∙ is)

  pub level_of_lane : (s lid : ℕ) → IsSource t s → IsConnectedTo t s lid → level l s lid ≡ Some (lane_of s lid)
  level_of_lane s lid source connected =
      let given : (m : ℕ) × (m ≡ lane_of s lid) × (level l s lid ≡ Some m) = levels.levels s lid source connected in
      given.2 ∙ ap (λ n. Some n) given.1

  pub level_edges : (lane : ℕ) → SameGraph (IsEdgeAtLevel t e l lane) (λ (c d : ℕ). IsEdgeOfLane t e lane_of lane c d)
  level_edges lane c d = (forth, back)
    where
      forth : IsEdgeAtLevel t e l lane c d → IsEdgeOfLane t e lane_of lane c d
      forth x =
          let path : IsSource t x.1 × IsConnectedTo t x.1 x.0 = level_of_path x.1 x.0 lane x.2 in
          (x.1, x.0, path.0, path.1, lane_of_level x.1 x.0 lane x.2, x.3)

      back : IsEdgeOfLane t e lane_of lane c d → IsEdgeAtLevel t e l lane c d
      back x = (x.1, x.0, level_of_lane x.0 x.1 x.2 x.3 ∙ ap (λ n. Some n) x.4, x.5)
