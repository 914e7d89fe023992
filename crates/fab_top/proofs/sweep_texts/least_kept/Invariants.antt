use Rattle.std.proofs.Common.{◌≡◌, length, take}
use Rattle.std.specs.Prelude.{fold, min}
use Rattle.fab_model.specs.Topology.{lids_of}
use Rattle.fab_sweep.specs.declared.rows.SweepRow.{SweepRow}
use Rattle.fab_top.proofs.sweep_texts.least_kept.Given as goal

abbrev pub invariant-loop-row : goal.invariant-loop-row
invariant-loop-row l = l.least ≡ fold (λ n (row : SweepRow). min n row.kept) (length (lids_of l.fabric)) (take l.row-index l.rows)
