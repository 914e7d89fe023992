-- The commands on a recipe, which take no file.
use Rattle.std.proofs.Common.{◌≡◌, ℕ, List, Option, Result, sym, subst}
use Rattle.fab_report.specs.declared.recipe.Recipe.{Recipe}
use Rattle.fab_report.specs.Recipes.{generated}
use Rattle.fab_top.specs.declared.command.Command.{Command}
use Rattle.fab_top.specs.declared.command.Command.TheVariants.{Gen, Demo}
use Rattle.fab_top.specs.declared.command.Engine.{Engine}
use Rattle.fab_top.specs.declared.outcome.Outcome.{Outcome}
use Rattle.fab_top.specs.declared.outcome.Stop.{Stop}
use Rattle.fab_top.specs.Answers.{IsAnswerTo, IsFabricText, IsDemoAnswer}
use Rattle.fab_top.specs.Headline.{KeepsHeadlineOf, GeneratesTruly, ShowsOff}
use Rattle.fab_top.specs.Outcomes.{Obeys, FindsRightly}
use Rattle.fab_top.proofs.Steps.Concluding.{found}

pub gen_obeyed : (command : Command) (recipe : Recipe) (words : List (List ℕ)) (told : List ℕ → Option (List ℕ)) (now : List ℕ → ℕ) (result : Result Outcome Stop) → command ≡ Gen recipe →
    FindsRightly (IsFabricText (generated recipe)) (GeneratesTruly recipe) result → Obeys command words told now now result
gen_obeyed command recipe words told now result is finds =
    let P : Command → Type 0 = λ c. Obeys c words told now now result in
    subst P (sym is) (found (λ w answer. IsAnswerTo w (Gen recipe) answer) (λ w answer. KeepsHeadlineOf w (Gen recipe) answer) words told now result finds)

pub demo_obeyed : (command : Command) (recipe : Recipe) (engine : Engine) (words : List (List ℕ)) (told : List ℕ → Option (List ℕ)) (now : List ℕ → ℕ) (result : Result Outcome Stop) → command ≡ Demo recipe engine →
    FindsRightly (IsDemoAnswer engine (generated recipe)) (ShowsOff engine (generated recipe)) result → Obeys command words told now now result
demo_obeyed command recipe engine words told now result is finds =
    let P : Command → Type 0 = λ c. Obeys c words told now now result in
    subst P (sym is) (found (λ w answer. IsAnswerTo w (Demo recipe engine) answer) (λ w answer. KeepsHeadlineOf w (Demo recipe engine) answer) words told now result finds)
