-- The text of a fabric as an answer, and that of a recipe's fabric.
use Rattle.std.proofs.Common.{◌≡◌, ℕ, ◌≤◌, List, length, Result, Ok, Err, refl, subst, sym, ap, arith}
use Rattle.std.specs.Prelude.{IsTrue}
use Rattle.fab_model.specs.Topology.{Topology, HasNoOwnCable}
use Rattle.fab_model.specs.WellFormed.{IsFabric}
use Rattle.fab_netdiscover.specs.Laws.{IsTextOf}
use Rattle.fab_netdiscover.specs.Writing.{text_of}
use Rattle.fab_netdiscover.proofs.WrittenFabric.{written_is_built}
use Rattle.fab_report.specs.declared.recipe.Recipe.{Recipe}
use Rattle.fab_report.specs.Recipes.{fits, generated}
use Rattle.fab_report.proofs.Cabling.AllCables.{generated_has_no_own_cable}
use Rattle.fab_report.proofs.Generated.GeneratedRows.{generated_is_fabric}
use Rattle.fab_top.specs.declared.outcome.Outcome.{Outcome}
use Rattle.fab_top.specs.declared.outcome.Stop.{Stop}
use Rattle.fab_top.specs.declared.outcome.Stop.TheVariants.{Refused, Unread, Memory}
use Rattle.fab_top.specs.Answer.{Answer, done, refused}
use Rattle.fab_top.specs.Answers.{IsFabricText}
use Rattle.fab_top.specs.Files.{fabric_limit}
use Rattle.fab_top.specs.Headline.{WritesTruly, GeneratesTruly}
use Rattle.fab_top.specs.Outcomes.{IsRightOutcome, FindsRightly, answer_of, CanBePut}
use Rattle.fab_top.proofs.Steps.Concluding.{found_at_most_1}
use Rattle.fab_top.proofs.ReadFits.{fabric_text_in}
use Rattle.fab_top.proofs.SpelledCommands.{IsFitting}
use Rattle.fab_top.proofs.TextLengths.{generated_is_short}

-- ---- a fabric

pub done_is_small : (text : List ℕ) (a : Answer) → a ≡ done text → a.status ≤ 1
done_is_small text a is = let status : a.status ≡ 0 = ap (λ (b : Answer). b.status) is in omega (arith, status)

-- a text that is of the fabric is taken as it again
text_keeps : (t : Topology) (text : List ℕ) (a : Answer) → IsTextOf text t → a ≡ done text → WritesTruly t a
text_keeps t text a again is = subst (WritesTruly t) (sym is) (refl, λ short name. fabric_text_in t text name again short)

pub writes_truly : (t : Topology) (a : Answer) → IsFabric t → HasNoOwnCable t → IsFabricText t a → WritesTruly t a
writes_truly t a fabric own is = text_keeps t (text_of t) a (written_is_built t fabric own) is

pub text_found : (t : Topology) (text : List ℕ) (outcome : Outcome) → text ≡ text_of t → IsTextOf text t → answer_of outcome ≡ done text → CanBePut outcome →
    IsRightOutcome (IsFabricText t) (WritesTruly t) outcome
text_found t text outcome same again answer put = record {
  is = let P : List ℕ → Type 0 = λ bytes. answer_of outcome ≡ done bytes in subst P same answer;
  headline = text_keeps t text (answer_of outcome) again answer;
  status = found_at_most_1 (answer_of outcome).status (done_is_small text (answer_of outcome) answer);
  can_be_put = put;
}

-- ---- a recipe

pub fitting_is_fabric : (recipe : Recipe) → IsFitting recipe → IsFabric (generated recipe)
fitting_is_fabric recipe fitting = generated_is_fabric recipe fitting.fits fitting.seed

-- the text of a recipe's fabric is never too long
truly : (recipe : Recipe) (a : Answer) → IsTrue (fits recipe) → IsFabric (generated recipe) → IsFabricText (generated recipe) a → WritesTruly (generated recipe) a → GeneratesTruly recipe a
truly recipe a fit fabric is writes =
    let out : a.out ≡ text_of (generated recipe) = ap (λ (b : Answer). b.out) is in
    let short : length a.out ≤ fabric_limit = omega (arith, ap (λ (xs : List ℕ). length xs) out, generated_is_short recipe fit fabric) in
    (fabric, writes.0, writes.1 short)

pub generates_truly : (recipe : Recipe) (a : Answer) → IsFitting recipe → IsFabricText (generated recipe) a → GeneratesTruly recipe a
generates_truly recipe a fitting is =
    let fabric : IsFabric (generated recipe) = fitting_is_fabric recipe fitting in
    truly recipe a fitting.fits fabric is (writes_truly (generated recipe) a fabric (generated_has_no_own_cable recipe fitting.fits) is)

-- what is found of the fabric is found of the recipe
found_of : (recipe : Recipe) (result : Result Outcome Stop) → IsTrue (fits recipe) → IsFabric (generated recipe) →
    FindsRightly (IsFabricText (generated recipe)) (WritesTruly (generated recipe)) result → FindsRightly (IsFabricText (generated recipe)) (GeneratesTruly recipe) result
found_of recipe (Ok outcome) fit fabric finds = record { is = finds.is; headline = truly recipe (answer_of outcome) fit fabric finds.is finds.headline; status = finds.status; can_be_put = finds.can_be_put }
found_of recipe (Err (Refused text)) fit fabric finds = record { is = finds.is; headline = truly recipe (refused text.items) fit fabric finds.is finds.headline }
found_of recipe (Err (Unread place)) fit fabric finds = finds
found_of recipe (Err (Memory lack)) fit fabric finds = finds

pub generated_found : (recipe : Recipe) (t : Topology) (result : Result Outcome Stop) → IsTrue (fits recipe) → t ≡ generated recipe → IsFabric t →
    FindsRightly (IsFabricText t) (WritesTruly t) result → FindsRightly (IsFabricText (generated recipe)) (GeneratesTruly recipe) result
generated_found recipe t result fit same fabric finds =
    let P : Topology → Type 0 = λ u. FindsRightly (IsFabricText u) (WritesTruly u) result in
    found_of recipe result fit (subst IsFabric same fabric) (subst P same finds)
