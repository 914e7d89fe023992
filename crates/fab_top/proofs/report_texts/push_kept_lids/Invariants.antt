use Rattle.std.proofs.Common.{◌≡◌, ◌++◌, flat_map, take}
use Rattle.fab_model.specs.declared.rows.Lid.{Lid}
use Rattle.fab_top.specs.ReportTexts.{kept_lid}
use Rattle.fab_top.proofs.report_texts.push_kept_lids.Given as goal

abbrev pub invariant-loop-lid : goal.invariant-loop-lid
invariant-loop-lid l = l.to.items ≡ l.initial.to.items ++ flat_map (λ (lid : Lid). kept_lid lid.0) (take l.lid-index l.kept)
