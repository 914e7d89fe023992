-- A command on a fabric and a plan of it, by the steps of its two files.
use Rattle.std.proofs.Common.{◌≡◌, ℕ, List, [], ◌∷◌, Option, Result, Ok}
use Rattle.std.specs.Prelude.{IsErrAnd}
use Rattle.fab_model.specs.Topology.{Topology}
use Rattle.fab_tables.specs.declared.plan.Plan.{Plan}
use Rattle.fab_top.specs.declared.outcome.Outcome.{Outcome}
use Rattle.fab_top.specs.declared.outcome.Stop.{Stop}
use Rattle.fab_top.specs.Answer.{Answer}
use Rattle.fab_top.specs.Files.{fabric_in, plan_in}
use Rattle.fab_top.specs.Outcomes.{FindsRightly, Concludes}
use Rattle.fab_top.specs.Seen.{WithPlan, WithBoth}
use Rattle.fab_top.specs.Taking.{FileSays, StopsAt}
use Rattle.fab_top.proofs.Steps.Concluding.{goes_on, stops, found}

-- nothing was taken from the fabric's file
pub fabric_stops : (fabric plan : ℕ) (A H : Topology → Plan → Answer → Type 0) (words : List (List ℕ)) (told : List ℕ → Option (List ℕ)) (before now : List ℕ → ℕ) (stop : Stop) (result : Result Outcome Stop) →
    StopsAt words told before now fabric fabric_in stop → IsErrAnd result (λ handed. handed ≡ stop) →
    Concludes (fabric ∷ plan ∷ []) (λ w answer. WithBoth w fabric plan A answer) (λ w answer. WithBoth w fabric plan H answer) words told before now result
fabric_stops fabric plan A H words told before now stop result stops_at hands =
    stops fabric fabric_in (plan ∷ []) (λ t w answer. WithPlan w t plan (A t) answer) (λ t w answer. WithPlan w t plan (H t) answer) words told before now stop result stops_at hands

-- nothing was taken from the plan's file
pub plan_stops : (fabric plan : ℕ) (A H : Topology → Plan → Answer → Type 0) (words : List (List ℕ)) (told later : List ℕ → Option (List ℕ)) (before mid now : List ℕ → ℕ) (t : Topology) (stop : Stop) (result : Result Outcome Stop) →
    FileSays words told before mid fabric fabric_in (Ok t) → later ≡ told → StopsAt words later mid now plan (plan_in t) stop → IsErrAnd result (λ handed. handed ≡ stop) →
    Concludes (fabric ∷ plan ∷ []) (λ w answer. WithBoth w fabric plan A answer) (λ w answer. WithBoth w fabric plan H answer) words told before now result
plan_stops fabric plan A H words told later before mid now t stop result taken same stops_at hands =
    goes_on fabric fabric_in (plan ∷ []) (λ u w answer. WithPlan w u plan (A u) answer) (λ u w answer. WithPlan w u plan (H u) answer) words told later before mid now t result taken same
    (stops plan (plan_in t) [] (λ p w. A t p) (λ p w. H t p) words later mid now stop result stops_at hands)

-- both were taken, and this is found of them
pub both_found : (fabric plan : ℕ) (A H : Topology → Plan → Answer → Type 0) (words : List (List ℕ)) (told later last : List ℕ → Option (List ℕ)) (before mid now : List ℕ → ℕ) (t : Topology) (p : Plan) (result : Result Outcome Stop) →
    FileSays words told before mid fabric fabric_in (Ok t) → later ≡ told → FileSays words later mid now plan (plan_in t) (Ok p) → last ≡ later → FindsRightly (A t p) (H t p) result →
    Concludes (fabric ∷ plan ∷ []) (λ w answer. WithBoth w fabric plan A answer) (λ w answer. WithBoth w fabric plan H answer) words told before now result
both_found fabric plan A H words told later last before mid now t p result first same second still finds =
    goes_on fabric fabric_in (plan ∷ []) (λ u w answer. WithPlan w u plan (A u) answer) (λ u w answer. WithPlan w u plan (H u) answer) words told later before mid now t result first same
    (goes_on plan (plan_in t) [] (λ q w. A t q) (λ q w. H t q) words later last mid now now p result second still
    (found (λ w. A t p) (λ w. H t p) words last now result finds))
