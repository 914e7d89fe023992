-- What is found of the fabric without the cables of a list.
use Rattle.std.proofs.Common.{◌≡◌, ℕ, List, Result, subst}
use Rattle.fab_model.specs.declared.rows.Cable.{Cable}
use Rattle.fab_model.specs.Topology.{Topology}
use Rattle.fab_top.specs.declared.outcome.Outcome.{Outcome}
use Rattle.fab_top.specs.declared.outcome.Stop.{Stop}
use Rattle.fab_top.specs.Answer.{Answer}
use Rattle.fab_top.specs.Files.{without_failed}
use Rattle.fab_top.specs.Outcomes.{FindsRightly}
use Rattle.fab_top.specs.Seen.{Seen, After, word_at}

-- what is said of the fabric without the cables is said of the list
abbrev pub OfList : ℕ → (Topology → Answer → Type 0) → Topology → List Cable → Seen → Answer → Type 0
OfList failed rest t cables w answer = After (without_failed (word_at w.words failed) t cables) rest answer

-- what is found under one name and of one list is found under an equal name and of an equal list
pub found_likewise : (A H : Topology → Answer → Type 0) (name word : List ℕ) (t : Topology) (cables listed : List Cable) (result : Result Outcome Stop) → name ≡ word → cables ≡ listed →
    FindsRightly (After (without_failed name t cables) A) (After (without_failed name t cables) H) result → FindsRightly (After (without_failed word t listed) A) (After (without_failed word t listed) H) result
found_likewise A H name word t cables listed result same_name same_list finds =
    let P : List ℕ → Type 0 = λ n. FindsRightly (After (without_failed n t cables) A) (After (without_failed n t cables) H) result in
    let Q : List Cable → Type 0 = λ cs. FindsRightly (After (without_failed word t cs) A) (After (without_failed word t cs) H) result in
    subst Q same_list (subst P same_name finds)
