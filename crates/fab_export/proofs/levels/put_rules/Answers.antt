use Rattle.std.specs.Prelude.{codes, flat_map}
use Rattle.std.proofs.lemmas.Result.{err_from_is_err_and}
use Rattle.fab_export.specs.LevelsText.{rule_lines}
use Rattle.fab_export.specs.Policies.{class_rules, numbered_classes}
use Rattle.fab_export.proofs.PartPuts.{enclosed_first, enclosed_second, enclosed_put}
use Rattle.fab_export.proofs.levels.put_rules.Goals as goal

pub returns-in_err-put : goal.returns-in_err-put
returns-in_err-put g c =
    let p = err_from_is_err_and c.from_residual.result c.from_residual.ensures.1 in
    rw (p.1, p.2) (enclosed_first (codes "qos-match-rules") (flat_map rule_lines (flat_map (class_rules c.args.reached.now.fabric c.args.reached.now.entries c.args.lanes.now) (numbered_classes c.args.reached.now.fabric c.args.reached.now.entries c.args.lanes.now)))
    c.in_err-put.field-0.0 c.in_err-put.ensures)

pub returns-in_err-put_all_rules : goal.returns-in_err-put_all_rules
returns-in_err-put_all_rules g c =
    let p = err_from_is_err_and c.from_residual-in_err-put_all_rules.result c.from_residual-in_err-put_all_rules.ensures.1 in
    rw (p.1, p.2) (enclosed_second (codes "qos-match-rules") (flat_map rule_lines (flat_map (class_rules c.args.reached.now.fabric c.args.reached.now.entries c.args.lanes.now) (numbered_classes c.args.reached.now.fabric c.args.reached.now.entries c.args.lanes.now)))
    c.in_ok-put.ensures c.in_err-put_all_rules.field-0.0 c.in_err-put_all_rules.ensures)

pub returns : goal.returns
returns g c =
    enclosed_put (codes "qos-match-rules") (flat_map rule_lines (flat_map (class_rules c.args.reached.now.fabric c.args.reached.now.entries c.args.lanes.now) (numbered_classes c.args.reached.now.fabric c.args.reached.now.entries c.args.lanes.now)))
    c.in_ok-put.ensures c.in_ok-put_all_rules.ensures c.put-2.result c.put-2.ensures
