use Rattle.std.proofs.Common.{◌≡◌, sym, ap, ◌∙◌, rules}
use Rattle.std.specs.Prelude.{option_map}
use Rattle.fab_top.specs.declared.engine_words.Asked.TheVariants.{Roots}
use Rattle.fab_top.specs.Words.{texts, asked_behind, roots_asked}
use Rattle.fab_top.proofs.RootWords.{not_two_words, other_two_words}
use Rattle.fab_top.proofs.engine_words.asked_behind.Goals as goal
use Rattle.fab_top.proofs.engine_words.asked_behind.Goals.{in_default-via-then-others-lt2, in_default-via-in-len2+else-eq, in_default-via-else-others-lt2+else-others-lt3}

pub returns-in_default-2 : goal.returns-in_default-2
returns-in_default-2 c =
    let asks : asked_behind (texts c.args.others.now) ≡ roots_asked (texts c.args.others.now) = elim c.in_default.branch [
      | in_default-via-then-others-lt2 w ↦ not_two_words c.args.others.now (λ e. search rules) (λ e. search rules)
      | in_default-via-in-len2+else-eq w ↦ other_two_words c.args.others.now (search rules) w.flag-item.result w.flag-item.is w.as_str.result.now w.as_str.ensures.value (sym w.eq.ensures ∙ w.if-eq.false)
      | in_default-via-else-others-lt2+else-others-lt3 w ↦ not_two_words c.args.others.now (λ e. search rules) (λ e. search rules)
    ] in
    sym (asks ∙ ap (λ o. option_map Roots o) (sym c.in_ok-roots-in_default.ensures ∙ c.in_default-2.is))

pub returns-in-Some-2 : goal.returns-in-Some-2
returns-in-Some-2 c =
    let asks : asked_behind (texts c.args.others.now) ≡ roots_asked (texts c.args.others.now) = elim c.in_default.branch [
      | in_default-via-then-others-lt2 w ↦ not_two_words c.args.others.now (λ e. search rules) (λ e. search rules)
      | in_default-via-in-len2+else-eq w ↦ other_two_words c.args.others.now (search rules) w.flag-item.result w.flag-item.is w.as_str.result.now w.as_str.ensures.value (sym w.eq.ensures ∙ w.if-eq.false)
      | in_default-via-else-others-lt2+else-others-lt3 w ↦ not_two_words c.args.others.now (λ e. search rules) (λ e. search rules)
    ] in
    sym (asks ∙ ap (λ o. option_map Roots o) (sym c.in_ok-roots-in_default.ensures ∙ c.in-Some-2.is))
