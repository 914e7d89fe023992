-- A change has numbers only where its dependencies have no closed walk, and a ring only where they have one.
use Rattle.std.proofs.Common.{◌≡◌, ℕ, zero, suc, ◌<◌, List, [], ◌∷◌, length, Some, ap, subst}
use Rattle.std.specs.Prelude.{slice_get}
use Rattle.std.proofs.lemmas.Option.{none-some, same_Some}
use Rattle.fab_graph.specs.Walks.{IsAcyclic, HasClosedWalk}
use Rattle.fab_graph.specs.Rings.{IsFirstRing}
use Rattle.fab_graph.proofs.Graphs
use Rattle.fab_model.specs.Topology.{Topology}
use Rattle.fab_tables.specs.declared.verdict.VirtualChannel.{VirtualChannel}
use Rattle.fab_tables.specs.Dependencies.{node_of}
use Rattle.fab_tables.specs.LaneTables.{LaneTables}
use Rattle.fab_certify.specs.Numbered.{IsNumberedBy}
use Rattle.fab_certify.proofs.ImageWalks.{closed_of_image}
use Rattle.fab_certify.proofs.Numbered.NumberedPlan.{one_node}
use Rattle.fab_transit.specs.MixedWalks.{Change, bound, Standing, standing_after, LeadsOn, IsOnMixedWalk, DependsMixed, DependsMixedByNode}
use Rattle.fab_transit.specs.Answers.{bare_lanes}

module _ (t : Topology) (m : Change) where
  -- numbers are levels
  pub numbers_acyclic : (l : LaneTables) → IsNumberedBy (IsOnMixedWalk t m) (DependsMixed t m) (bare_lanes t m) l → IsAcyclic (DependsMixed t m)
  numbers_acyclic l numbered = Graphs.levels_rise (DependsMixed t m) numbered.level numbered.levels

  pub numbers_of_channels : (l : LaneTables) → IsNumberedBy (IsOnMixedWalk t m) (DependsMixed t m) (bare_lanes t m) l → l.channels ≡ length t.channels
  numbers_of_channels l numbered = ap (λ (k : LaneTables). k.channels) numbered.same

  -- each lane of a mixed walk is good
  pub good_lane : (lid of_level : ℕ) (here there : Standing) (vs : List VirtualChannel) (k : ℕ) (v : VirtualChannel) → LeadsOn t m lid of_level here vs there → slice_get vs k ≡ Some v → v.lane < bound m
  good_lane lid of_level here there [] k v leads at = absurd (none-some v at)
  good_lane lid of_level here there (w ∷ vs) zero v leads at = subst (λ (x : VirtualChannel). x.lane < bound m) (same_Some w v at) leads.0.good
  good_lane lid of_level here there (w ∷ vs) (suc k) v leads at = good_lane lid of_level (standing_after t w.channel.0) there vs k v leads.1 at

  first_lane : (v w : VirtualChannel) → DependsMixed t m v w → v.lane < bound m
  first_lane v w d = good_lane d.1 d.2 (record { at = d.0.switch.0; from = d.0.port }) d.4 d.3 d.6.0 v d.5.leads d.6.1

  second_lane : (v w : VirtualChannel) → DependsMixed t m v w → w.lane < bound m
  second_lane v w d = good_lane d.1 d.2 (record { at = d.0.switch.0; from = d.0.port }) d.4 d.3 (suc d.6.0) w d.5.leads d.6.2

  pub ring_is_mixed : (ring : List ℕ) → IsFirstRing (DependsMixedByNode t m) ring → ¬ IsAcyclic (DependsMixed t m)
  ring_is_mixed ring first acyclic = Graphs.ring_is_cyclic (DependsMixedByNode t m) ring first (λ n closed. none (closed_of_image (DependsMixed t m) (node_of (bound m)) apart n closed))
    where
      apart : (a b c d : VirtualChannel) → DependsMixed t m a b → DependsMixed t m c d → node_of (bound m) b ≡ node_of (bound m) c → b ≡ c
      apart a b c d p q = one_node (bound m) b c (second_lane a b p) (first_lane c d q)

      none : HasClosedWalk (DependsMixed t m) → ⊥
      none w = acyclic w.0 w.1
