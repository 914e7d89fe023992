use Rattle.std.specs.Prelude.{codes, flat_map}
use Rattle.std.proofs.lemmas.Result.{err_from_is_err_and}
use Rattle.fab_export.specs.LevelsText.{group_lines}
use Rattle.fab_export.specs.Policies.{class_groups, numbered_classes}
use Rattle.fab_export.proofs.PartPuts.{enclosed_first, enclosed_second, enclosed_put}
use Rattle.fab_export.proofs.levels.put_port_groups.Goals as goal

pub returns-in_err-put : goal.returns-in_err-put
returns-in_err-put g c =
    let p = err_from_is_err_and c.from_residual.result c.from_residual.ensures.1 in
    rw (p.1, p.2) (enclosed_first (codes "port-groups") (flat_map group_lines (flat_map (class_groups c.args.reached.now.fabric c.args.reached.now.entries c.args.lanes.now) (numbered_classes c.args.reached.now.fabric c.args.reached.now.entries c.args.lanes.now)))
    c.in_err-put.field-0.0 c.in_err-put.ensures)

pub returns-in_err-put_groups : goal.returns-in_err-put_groups
returns-in_err-put_groups g c =
    let p = err_from_is_err_and c.from_residual-in_err-put_groups.result c.from_residual-in_err-put_groups.ensures.1 in
    rw (p.1, p.2) (enclosed_second (codes "port-groups") (flat_map group_lines (flat_map (class_groups c.args.reached.now.fabric c.args.reached.now.entries c.args.lanes.now) (numbered_classes c.args.reached.now.fabric c.args.reached.now.entries c.args.lanes.now)))
    c.in_ok-put.ensures c.in_err-put_groups.field-0.0 c.in_err-put_groups.ensures)

pub returns : goal.returns
returns g c =
    enclosed_put (codes "port-groups") (flat_map group_lines (flat_map (class_groups c.args.reached.now.fabric c.args.reached.now.entries c.args.lanes.now) (numbered_classes c.args.reached.now.fabric c.args.reached.now.entries c.args.lanes.now)))
    c.in_ok-put.ensures c.in_ok-put_groups.ensures c.put-2.result c.put-2.ensures
