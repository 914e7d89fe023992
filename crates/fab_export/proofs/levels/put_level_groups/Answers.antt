use Rattle.std.proofs.Common.{◌≡◌, ◌∙◌, ℕ, [], cond, map, ap, arith, Ok, Err}
use Rattle.std.specs.Prelude.{filter, flat_map}
use Rattle.std.specs.List.{range_with_len}
use Rattle.std.proofs.lemmas.Result.{err_from_is_err_and}
use Rattle.fab_dump.proofs.Writing.Puts.{nothing_put}
use Rattle.fab_export.specs.LevelsInUse.{all_levels}
use Rattle.fab_export.specs.LevelsText.{group_lines}
use Rattle.fab_export.specs.SourceLevels.{row_has, row_group}
use Rattle.fab_export.proofs.PartPuts.{chosen, number_put, number_stopped, put_as}
use Rattle.fab_export.proofs.levels.put_level_groups.Goals as goal

pub loop-level-init : goal.loop-level-init
loop-level-init g c = nothing_put (g.S.Sink.told c.args.sink.now) (g.S.Sink.faults c.args.sink.now)

pub returns-in_err-put_level_group : goal.returns-in_err-put_level_group
returns-in_err-put_level_group g c =
    let p = err_from_is_err_and c.from_residual.result c.from_residual.ensures.1 in
    let group = row_group c.args.fabric.now c.args.class c.args.row.now in
    let lines = λ (level : ℕ). cond (row_has c.args.row.now level) (group_lines (group level)) [] in
    rw (p.1, p.2)
    (put_as (flat_map lines (range_with_len 0 16)) (flat_map group_lines (map group (filter (row_has c.args.row.now) all_levels))) (Err c.in_err-put_level_group.field-0.0) (chosen group_lines group (row_has c.args.row.now) (range_with_len 0 16))
    (number_stopped lines c.loop-level.level c.loop-level.invariant 16 (omega (arith, c.loop-level-test.true)) c.in_err-put_level_group.field-0.0 c.in_err-put_level_group.ensures))

pub loop-level-preserved : goal.loop-level-preserved
loop-level-preserved g c =
    number_put (λ (level : ℕ). cond (row_has c.args.row.now level) (group_lines (row_group c.args.fabric.now c.args.class c.args.row.now level)) []) c.loop-level.level c.loop-level.invariant c.in_ok-put_level_group.ensures

pub returns : goal.returns
returns g c =
    let group = row_group c.args.fabric.now c.args.class c.args.row.now in
    let lines = λ (level : ℕ). cond (row_has c.args.row.now level) (group_lines (group level)) [] in
    let all : c.loop-level.level ≡ 16 = omega (arith, c.loop-level-test.false, c.loop-level.auto.level-end) in
    put_as (flat_map lines (range_with_len 0 c.loop-level.level)) (flat_map group_lines (map group (filter (row_has c.args.row.now) all_levels))) (Ok tt)
    (ap (λ (n : ℕ). flat_map lines (range_with_len 0 n)) all ∙ chosen group_lines group (row_has c.args.row.now) (range_with_len 0 16)) c.loop-level.invariant
