use Rattle.std.proofs.Common.{◌≡◌, sym, ◌∙◌, ap, arith, slice_index_or, false}
use Rattle.fab_export.proofs.MarkedLevels.{last_unmarked, unmarked_is_last, marked_stays, spare_is}
use Rattle.fab_export.proofs.used_levels.spare_level_of.Goals as goal
use Rattle.fab_export.proofs.used_levels.spare_level_of.Goals.{then-not-used-from, else-not-used-from}

pub loop-level-preserved : goal.loop-level-preserved
loop-level-preserved c =
    let used = c.args.used.now in
    let n = c.loop-level.level in
    elim c.if-not-used-from.branch [
      | then-not-used-from w ↦ w.spare-is ∙ unmarked_is_last used n (ap (λ k. slice_index_or used k false) (sym c.from.ensures) ∙ w.if-not-used-from.true)
      | else-not-used-from w ↦ w.spare-is ∙ c.loop-level.invariant ∙ marked_stays used n (ap (λ k. slice_index_or used k false) (sym c.from.ensures) ∙ w.if-not-used-from.false)
    ]

pub returns : goal.returns
returns c = λ t e l are.
    c.loop-level.invariant ∙ ap (last_unmarked c.args.used.now) (let last : c.loop-level.level ≡ 16 = omega arith in last) ∙ spare_is t e l c.args.used.now are
