use Rattle.std.proofs.Common.{◌≡◌, ◌<◌, ◌∙◌, ℕ, length, ap, arith, Ok, Err}
use Rattle.std.specs.Prelude.{flat_map, slice_index}
use Rattle.std.specs.List.{range_with_len}
use Rattle.std.proofs.lemmas.Result.{err_from_is_err_and}
use Rattle.fab_dump.proofs.Writing.Puts.{nothing_put}
use Rattle.fab_export.specs.Classes.{least_sources}
use Rattle.fab_export.specs.LevelsText.{group_lines}
use Rattle.fab_export.specs.Policies.{class_groups, numbered_classes}
use Rattle.fab_export.proofs.PartPuts.{by_place, number_put, number_stopped, put_as}
use Rattle.fab_export.proofs.levels.put_groups.Goals as goal

pub loop-class-init : goal.loop-class-init
loop-class-init g c = nothing_put (g.S.Sink.told c.args.sink.now) (g.S.Sink.faults c.args.sink.now)

pub returns-in_err-put_class_groups : goal.returns-in_err-put_class_groups
returns-in_err-put_class_groups g c =
    let t = c.args.reached.now.fabric in
    let e = c.args.reached.now.entries in
    let l = c.args.lanes.now in
    let least = c.args.classes.now.least in
    let lines = λ (class : ℕ). flat_map group_lines (class_groups t e l (class, slice_index least class)) in
    let low : c.loop-class.class < length least = omega (arith, c.loop-class-test.true, c.count-class-end.ensures) in
    let p = err_from_is_err_and c.from_residual.result c.from_residual.ensures.1 in
    rw (p.1, p.2)
    (put_as (flat_map lines (range_with_len 0 (length least))) (flat_map group_lines (flat_map (class_groups t e l) (numbered_classes t e l))) (Err c.in_err-put_class_groups.field-0.0) (by_place group_lines (class_groups t e l) least (least_sources t e l) c.requires.classes.least)
    (number_stopped lines c.loop-class.class c.loop-class.invariant (length least) low c.in_err-put_class_groups.field-0.0 c.in_err-put_class_groups.ensures))

pub loop-class-preserved : goal.loop-class-preserved
loop-class-preserved g c =
    number_put (λ (class : ℕ). flat_map group_lines (class_groups c.args.reached.now.fabric c.args.reached.now.entries c.args.lanes.now (class, slice_index c.args.classes.now.least class))) c.loop-class.class c.loop-class.invariant c.in_ok-put_class_groups.ensures

pub returns : goal.returns
returns g c =
    let t = c.args.reached.now.fabric in
    let e = c.args.reached.now.entries in
    let l = c.args.lanes.now in
    let least = c.args.classes.now.least in
    let lines = λ (class : ℕ). flat_map group_lines (class_groups t e l (class, slice_index least class)) in
    let all : c.loop-class.class ≡ length least = omega (arith, c.loop-class-test.false, c.loop-class.auto.class-end, c.count-class-end.ensures) in
    put_as (flat_map lines (range_with_len 0 c.loop-class.class)) (flat_map group_lines (flat_map (class_groups t e l) (numbered_classes t e l))) (Ok tt)
    (ap (λ (n : ℕ). flat_map lines (range_with_len 0 n)) all ∙ by_place group_lines (class_groups t e l) least (least_sources t e l) c.requires.classes.least) c.loop-class.invariant
