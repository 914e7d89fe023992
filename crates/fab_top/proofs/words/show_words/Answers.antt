use Rattle.std.proofs.Common.{rules, sym, ◌∙◌}
use Rattle.fab_top.proofs.Wording.{no_show, no_show_fabric, no_show_plan}
use Rattle.fab_top.proofs.words.show_words.Goals as goal
use Rattle.fab_top.proofs.words.show_words.Goals.{in_default-via-then-others-lt4, in_default-via-in-len4+then-is_file+else-is_file-2, in_default-via-in-len4+else-is_file, in_default-via-else-others-lt4+else-others-lt5}

pub returns-in_default : goal.returns-in_default
returns-in_default c = elim c.in_default.branch [
  | in_default-via-then-others-lt4 w ↦ no_show c.args.others.now (λ e. search rules)
  | in_default-via-in-len4+then-is_file+else-is_file-2 w ↦ no_show_plan c.args.others.now (search rules) w.plan-item.result w.plan-item.is w.as_str-then-is_file.result.now w.as_str-then-is_file.ensures.value (sym w.is_file-then-is_file.ensures ∙ w.if-is_file-2.false)
  | in_default-via-in-len4+else-is_file w ↦ no_show_fabric c.args.others.now (search rules) w.fabric-item.result w.fabric-item.is w.as_str.result.now w.as_str.ensures.value (sym w.is_file.ensures ∙ w.if-is_file.false)
  | in_default-via-else-others-lt4+else-others-lt5 w ↦ no_show c.args.others.now (λ e. search rules)
]
