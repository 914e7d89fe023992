-- A command on a fabric and two plans of it, by the steps of its three files.
use Rattle.std.proofs.Common.{◌≡◌, ℕ, List, [], ◌∷◌, Option, Result, Ok}
use Rattle.std.specs.Prelude.{IsErrAnd}
use Rattle.fab_model.specs.Topology.{Topology}
use Rattle.fab_tables.specs.declared.plan.Plan.{Plan}
use Rattle.fab_top.specs.declared.outcome.Outcome.{Outcome}
use Rattle.fab_top.specs.declared.outcome.Stop.{Stop}
use Rattle.fab_top.specs.Answer.{Answer}
use Rattle.fab_top.specs.Files.{fabric_in, plan_in}
use Rattle.fab_top.specs.Outcomes.{FindsRightly, Concludes}
use Rattle.fab_top.specs.Seen.{Seen, WithPlan, WithBoth}
use Rattle.fab_top.specs.Taking.{FileSays, StopsAt}
use Rattle.fab_top.proofs.Steps.Concluding.{goes_on, stops, found}

module _ (fabric old new : ℕ) (A H : Topology → Plan → Plan → Answer → Type 0) where
  -- what is said of both plans is said of the fabric, and then of the old plan
  abbrev pub OfPlans : (Topology → Plan → Plan → Answer → Type 0) → Seen → Answer → Type 0
  OfPlans B w answer = WithBoth w fabric old (λ t p. WithPlan w t new (B t p)) answer

  abbrev OfFabric : (Topology → Plan → Plan → Answer → Type 0) → Topology → Seen → Answer → Type 0
  OfFabric B t w answer = WithPlan w t old (λ p. WithPlan w t new (B t p)) answer

  abbrev OfOld : (Topology → Plan → Plan → Answer → Type 0) → Topology → Plan → Seen → Answer → Type 0
  OfOld B t p w answer = WithPlan w t new (B t p) answer

  -- nothing was taken from the fabric's file
  pub first_stops : (words : List (List ℕ)) (told : List ℕ → Option (List ℕ)) (before now : List ℕ → ℕ) (stop : Stop) (result : Result Outcome Stop) →
      StopsAt words told before now fabric fabric_in stop → IsErrAnd result (λ handed. handed ≡ stop) →
      Concludes (fabric ∷ old ∷ new ∷ []) (OfPlans A) (OfPlans H) words told before now result
  first_stops words told before now stop result stops_at hands = stops fabric fabric_in (old ∷ new ∷ []) (OfFabric A) (OfFabric H) words told before now stop result stops_at hands

  -- nothing was taken from the old plan's file
  pub old_stops : (words : List (List ℕ)) (told later : List ℕ → Option (List ℕ)) (before mid now : List ℕ → ℕ) (t : Topology) (stop : Stop) (result : Result Outcome Stop) →
      FileSays words told before mid fabric fabric_in (Ok t) → later ≡ told → StopsAt words later mid now old (plan_in t) stop → IsErrAnd result (λ handed. handed ≡ stop) →
      Concludes (fabric ∷ old ∷ new ∷ []) (OfPlans A) (OfPlans H) words told before now result
  old_stops words told later before mid now t stop result first same stops_at hands =
      goes_on fabric fabric_in (old ∷ new ∷ []) (OfFabric A) (OfFabric H) words told later before mid now t result first same
      (stops old (plan_in t) (new ∷ []) (OfOld A t) (OfOld H t) words later mid now stop result stops_at hands)

  -- nothing was taken from the new plan's file
  pub new_stops : (words : List (List ℕ)) (told later last : List ℕ → Option (List ℕ)) (before mid past now : List ℕ → ℕ) (t : Topology) (p : Plan) (stop : Stop) (result : Result Outcome Stop) →
      FileSays words told before mid fabric fabric_in (Ok t) → later ≡ told → FileSays words later mid past old (plan_in t) (Ok p) → last ≡ later →
      StopsAt words last past now new (plan_in t) stop → IsErrAnd result (λ handed. handed ≡ stop) →
      Concludes (fabric ∷ old ∷ new ∷ []) (OfPlans A) (OfPlans H) words told before now result
  new_stops words told later last before mid past now t p stop result first same second still stops_at hands =
      goes_on fabric fabric_in (old ∷ new ∷ []) (OfFabric A) (OfFabric H) words told later before mid now t result first same
      (goes_on old (plan_in t) (new ∷ []) (OfOld A t) (OfOld H t) words later last mid past now p result second still
      (stops new (plan_in t) [] (λ q w. A t p q) (λ q w. H t p q) words last past now stop result stops_at hands))

  -- all were taken, and this is found of them
  pub plans_found : (words : List (List ℕ)) (told later last end : List ℕ → Option (List ℕ)) (before mid past now : List ℕ → ℕ) (t : Topology) (p q : Plan) (result : Result Outcome Stop) →
      FileSays words told before mid fabric fabric_in (Ok t) → later ≡ told → FileSays words later mid past old (plan_in t) (Ok p) → last ≡ later →
      FileSays words last past now new (plan_in t) (Ok q) → end ≡ last → FindsRightly (A t p q) (H t p q) result →
      Concludes (fabric ∷ old ∷ new ∷ []) (OfPlans A) (OfPlans H) words told before now result
  plans_found words told later last end before mid past now t p q result first same second still third ends finds =
      goes_on fabric fabric_in (old ∷ new ∷ []) (OfFabric A) (OfFabric H) words told later before mid now t result first same
      (goes_on old (plan_in t) (new ∷ []) (OfOld A t) (OfOld H t) words later last mid past now p result second still
      (goes_on new (plan_in t) [] (λ r w. A t p r) (λ r w. H t p r) words last end past now now q result third ends
      (found (λ w. A t p q) (λ w. H t p q) words end now result finds)))
