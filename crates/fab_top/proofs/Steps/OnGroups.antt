-- A command on a fabric and a list of groups of it, by the steps of its two files.
use Rattle.std.proofs.Common.{◌≡◌, ℕ, List, [], ◌∷◌, Option, Result, Ok}
use Rattle.std.specs.Prelude.{IsErrAnd}
use Rattle.fab_model.specs.Topology.{Topology}
use Rattle.fab_mcast.specs.GroupList.{Group}
use Rattle.fab_top.specs.declared.outcome.Outcome.{Outcome}
use Rattle.fab_top.specs.declared.outcome.Stop.{Stop}
use Rattle.fab_top.specs.Answer.{Answer}
use Rattle.fab_top.specs.Files.{fabric_in, groups_in}
use Rattle.fab_top.specs.Outcomes.{FindsRightly, Concludes}
use Rattle.fab_top.specs.Seen.{Seen, WithFabric, WithGroups}
use Rattle.fab_top.specs.Taking.{FileSays, StopsAt}
use Rattle.fab_top.proofs.Steps.Concluding.{goes_on, stops, found}

module _ (fabric groups : ℕ) (A H : Topology → List Group → Answer → Type 0) where
  -- what is said of the groups is said of the fabric
  abbrev pub OfGroups : (Topology → List Group → Answer → Type 0) → Seen → Answer → Type 0
  OfGroups B w answer = WithFabric w fabric (λ t. WithGroups w t groups (B t)) answer

  abbrev OfFabric : (Topology → List Group → Answer → Type 0) → Topology → Seen → Answer → Type 0
  OfFabric B t w answer = WithGroups w t groups (B t) answer

  -- nothing was taken from the fabric's file
  pub no_fabric : (words : List (List ℕ)) (told : List ℕ → Option (List ℕ)) (before now : List ℕ → ℕ) (stop : Stop) (result : Result Outcome Stop) →
      StopsAt words told before now fabric fabric_in stop → IsErrAnd result (λ handed. handed ≡ stop) →
      Concludes (fabric ∷ groups ∷ []) (OfGroups A) (OfGroups H) words told before now result
  no_fabric words told before now stop result stops_at hands = stops fabric fabric_in (groups ∷ []) (OfFabric A) (OfFabric H) words told before now stop result stops_at hands

  -- nothing was taken from the list's file
  pub no_groups : (words : List (List ℕ)) (told later : List ℕ → Option (List ℕ)) (before mid now : List ℕ → ℕ) (t : Topology) (stop : Stop) (result : Result Outcome Stop) →
      FileSays words told before mid fabric fabric_in (Ok t) → later ≡ told → StopsAt words later mid now groups (groups_in t) stop → IsErrAnd result (λ handed. handed ≡ stop) →
      Concludes (fabric ∷ groups ∷ []) (OfGroups A) (OfGroups H) words told before now result
  no_groups words told later before mid now t stop result taken same stops_at hands =
      goes_on fabric fabric_in (groups ∷ []) (OfFabric A) (OfFabric H) words told later before mid now t result taken same
      (stops groups (groups_in t) [] (λ gs w. A t gs) (λ gs w. H t gs) words later mid now stop result stops_at hands)

  -- both were taken, and this is found of them
  pub groups_found : (words : List (List ℕ)) (told later last : List ℕ → Option (List ℕ)) (before mid now : List ℕ → ℕ) (t : Topology) (list : List Group) (result : Result Outcome Stop) →
      FileSays words told before mid fabric fabric_in (Ok t) → later ≡ told → FileSays words later mid now groups (groups_in t) (Ok list) → last ≡ later → FindsRightly (A t list) (H t list) result →
      Concludes (fabric ∷ groups ∷ []) (OfGroups A) (OfGroups H) words told before now result
  groups_found words told later last before mid now t list result first same second still finds =
      goes_on fabric fabric_in (groups ∷ []) (OfFabric A) (OfFabric H) words told later before mid now t result first same
      (goes_on groups (groups_in t) [] (λ gs w. A t gs) (λ gs w. H t gs) words later last mid now now list result second still
      (found (λ w. A t list) (λ w. H t list) words last now result finds))
