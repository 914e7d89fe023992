-- A command on a fabric, by the steps of its file.
use Rattle.std.proofs.Common.{◌≡◌, ℕ, List, [], ◌∷◌, Option, Result, Ok}
use Rattle.std.specs.Prelude.{IsErrAnd}
use Rattle.fab_model.specs.Topology.{Topology}
use Rattle.fab_top.specs.declared.outcome.Outcome.{Outcome}
use Rattle.fab_top.specs.declared.outcome.Stop.{Stop}
use Rattle.fab_top.specs.Answer.{Answer}
use Rattle.fab_top.specs.Files.{fabric_in}
use Rattle.fab_top.specs.Outcomes.{FindsRightly, Concludes}
use Rattle.fab_top.specs.Seen.{WithFabric}
use Rattle.fab_top.specs.Taking.{FileSays, StopsAt}
use Rattle.fab_top.proofs.Steps.Concluding.{goes_on, stops, found}

-- nothing was taken from its file
pub only_fabric_stops : (fabric : ℕ) (A H : Topology → Answer → Type 0) (words : List (List ℕ)) (told : List ℕ → Option (List ℕ)) (before now : List ℕ → ℕ) (stop : Stop) (result : Result Outcome Stop) →
    StopsAt words told before now fabric fabric_in stop → IsErrAnd result (λ handed. handed ≡ stop) →
    Concludes (fabric ∷ []) (λ w answer. WithFabric w fabric A answer) (λ w answer. WithFabric w fabric H answer) words told before now result
only_fabric_stops fabric A H words told before now stop result stops_at hands = stops fabric fabric_in [] (λ t w. A t) (λ t w. H t) words told before now stop result stops_at hands

-- the fabric was taken, and this is found of it
pub on_fabric_found : (fabric : ℕ) (A H : Topology → Answer → Type 0) (words : List (List ℕ)) (told later : List ℕ → Option (List ℕ)) (before now : List ℕ → ℕ) (t : Topology) (result : Result Outcome Stop) →
    FileSays words told before now fabric fabric_in (Ok t) → later ≡ told → FindsRightly (A t) (H t) result →
    Concludes (fabric ∷ []) (λ w answer. WithFabric w fabric A answer) (λ w answer. WithFabric w fabric H answer) words told before now result
on_fabric_found fabric A H words told later before now t result taken same finds =
    goes_on fabric fabric_in [] (λ u w. A u) (λ u w. H u) words told later before now now t result taken same (found (λ w. A t) (λ w. H t) words later now result finds)
