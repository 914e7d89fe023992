use Rattle.std.proofs.Common.{◌≡◌, ◌++◌, ◌∙◌, Ok, Err, length, map, refl, ap, subst}
use Rattle.std.specs.Prelude.{filter, flat_map, slice_index}
use Rattle.std.specs.List.{range_with_len}
use Rattle.std.proofs.lemmas.Result.{err_from_is_err_and}
use Rattle.fab_model.specs.Topology.{Topology}
use Rattle.fab_dump.specs.Writing.{lines_text, PutsText}
use Rattle.fab_export.specs.ClassNumbers.{is_of_class}
use Rattle.fab_export.specs.LevelsInUse.{all_levels}
use Rattle.fab_export.specs.LevelsText.{group_lines}
use Rattle.fab_export.specs.Policies.{class_groups, class_name}
use Rattle.fab_export.specs.PortGuids.{source_guids}
use Rattle.fab_export.specs.SourceLevels.{levels_of, row_has, row_group}
use Rattle.fab_export.proofs.ClassRows.{groups_text, least_below}
use Rattle.fab_export.proofs.PartPuts.{first_of_two, two_put, pushed_put}
use Rattle.fab_export.proofs.levels.put_class_groups.Goals as goal

pub levels_of_source-requires-clause-source : goal.levels_of_source-requires-clause-source
levels_of_source-requires-clause-source g c =
    least_below c.args.reached.now.fabric c.args.reached.now.entries c.args.lanes.now c.args.classes.now c.requires.classes c.args.class c.least_source.result.0 c.requires.class c.least_source.ensures

pub returns-in_err-put : goal.returns-in_err-put
returns-in_err-put g c =
    let t = c.args.reached.now.fabric in
    let e = c.args.reached.now.entries in
    let l = c.args.lanes.now in
    let own = λ (fabric : Topology). lines_text (group_lines (record { name = class_name c.args.class; guids = flat_map (source_guids fabric) (filter (is_of_class c.args.classes.now c.args.class) (range_with_len 0 (length fabric.switches))) })) in
    let row = levels_of t e l (slice_index c.args.classes.now.least c.args.class) in
    let p = err_from_is_err_and c.from_residual-in_err-put.result c.from_residual-in_err-put.ensures.1 in
    rw (p.1, p.2)
    (first_of_two (own t) (lines_text (flat_map group_lines (map (row_group t c.args.class row) (filter (row_has row) all_levels)))) (lines_text (flat_map group_lines (class_groups t e l (c.args.class, slice_index c.args.classes.now.least c.args.class))))
    (groups_text t e l c.args.classes.now c.requires.classes c.args.class c.requires.class row refl) c.in_err-put.field-0.0
    (pushed_put (own t) c.clear.new.self.items c.push_class_group.new.text.items c.deref.result.now (Err c.in_err-put.field-0.0) c.clear.ensures.items
    (c.in_ok-push_class_group.ensures ∙ ap (λ (fabric : Topology). c.clear.new.self.items ++ own fabric) c.fabric.ensures.fabric) c.deref.ensures.value c.in_err-put.ensures))

pub returns : goal.returns
returns g c =
    let t = c.args.reached.now.fabric in
    let e = c.args.reached.now.entries in
    let l = c.args.lanes.now in
    let own = λ (fabric : Topology). lines_text (group_lines (record { name = class_name c.args.class; guids = flat_map (source_guids fabric) (filter (is_of_class c.args.classes.now c.args.class) (range_with_len 0 (length fabric.switches))) })) in
    let row = c.deref-2.result.now in
    let rest = λ (fabric : Topology). lines_text (flat_map group_lines (map (row_group fabric c.args.class row) (filter (row_has row) all_levels))) in
    let is : row ≡ levels_of t e l (slice_index c.args.classes.now.least c.args.class) = c.deref-2.ensures.value ∙ c.in_ok-row.ensures ∙ ap (levels_of t e l) c.least_source.ensures in
    two_put (own t) (rest t) (lines_text (flat_map group_lines (class_groups t e l (c.args.class, slice_index c.args.classes.now.least c.args.class))))
    (groups_text t e l c.args.classes.now c.requires.classes c.args.class c.requires.class row is) c.put_level_groups.result
    (pushed_put (own t) c.clear.new.self.items c.push_class_group.new.text.items c.deref.result.now (Ok tt) c.clear.ensures.items
    (c.in_ok-push_class_group.ensures ∙ ap (λ (fabric : Topology). c.clear.new.self.items ++ own fabric) c.fabric.ensures.fabric) c.deref.ensures.value c.in_ok-put.ensures)
    (subst (λ (fabric : Topology). PutsText (rest fabric) (g.S.Sink.told c.put.new.sink) (g.S.Sink.told c.put_level_groups.new.sink) (g.S.Sink.faults c.put.new.sink) (g.S.Sink.faults c.put_level_groups.new.sink) c.put_level_groups.result) c.fabric-2.ensures.fabric c.put_level_groups.ensures)
