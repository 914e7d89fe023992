use Rattle.std.proofs.Common.{◌≡◌, Some, sym, ap, ◌∙◌}
use Rattle.std.specs.Prelude.{option_copied, ◌==◌}
use Rattle.std.specs.List.{list_any}
use Rattle.std.proofs.lemmas.Bool.{cond-false}
use Rattle.fab_escape.specs.EscapeSet.{home}
use Rattle.fab_nue.specs.Kept.{old_level}
use Rattle.fab_nue.specs.Levels.{level_given}
use Rattle.fab_nue.proofs.levels.level_for.Goals as goal
use Rattle.fab_nue.proofs.levels.level_for.Goals.{in_default-via-in-Some+else-contains, in_default-via-in_default}

pub returns-in_default : goal.returns-in_default
returns-in_default c =
    let t = c.args.fabric.now in
    let n = c.args.count in
    let kept = c.args.kept.now in
    let s = c.args.s.0 in
    let lid = c.args.lid.0 in
    ap Some c.home.ensures.home ∙ elim c.in_default.branch [
      | in_default-via-in-Some+else-contains w ↦
          sym (ap (λ o. level_given t n (option_copied o) kept s lid) w.in-Some.is
          ∙ cond-false (list_any (λ one. one == lid) kept) (old_level w.in-Some.plan.now.lanes s lid) (Some (home t lid n)) (sym w.contains.ensures ∙ w.if-contains.false))
      | in_default-via-in_default w ↦ sym (ap (λ o. level_given t n (option_copied o) kept s lid) w.in_default.is)
    ]
