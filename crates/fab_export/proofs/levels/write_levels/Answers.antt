use Rattle.std.proofs.Common.{[], ◌∷◌}
use Rattle.std.specs.Prelude.{codes}
use Rattle.std.proofs.lemmas.Result.{err_from_is_err_and}
use Rattle.fab_dump.proofs.Writing.Parts.{stopped_in_first, stopped_in_second, stopped_in_third, four_put}
use Rattle.fab_export.specs.LevelsText.{policy_lines}
use Rattle.fab_export.specs.Policies.{policy_of}
use Rattle.fab_export.proofs.LevelParts.{groups_part, levels_part, rules_part, level_parts}
use Rattle.fab_export.proofs.levels.write_levels.Goals as goal

pub returns-in_err-put : goal.returns-in_err-put
returns-in_err-put g c =
    let t = c.args.reached.now.fabric in
    let e = c.args.reached.now.entries in
    let l = c.args.lanes.now in
    let p = err_from_is_err_and c.from_residual-in_err-put.result c.from_residual-in_err-put.ensures.1 in
    rw (p.1, p.2) (stopped_in_first (codes "# fabroute levels" ∷ []) (groups_part t e l) (levels_part t e l) (rules_part t e l) (policy_lines (policy_of t e l)) (level_parts t e l)
    c.in_err-put.field-0.0 c.in_err-put.ensures)

pub returns-in_err-put_port_groups : goal.returns-in_err-put_port_groups
returns-in_err-put_port_groups g c =
    let t = c.args.reached.now.fabric in
    let e = c.args.reached.now.entries in
    let l = c.args.lanes.now in
    let p = err_from_is_err_and c.from_residual-in_err-put_port_groups.result c.from_residual-in_err-put_port_groups.ensures.1 in
    rw (p.1, p.2) (stopped_in_second (codes "# fabroute levels" ∷ []) (groups_part t e l) (levels_part t e l) (rules_part t e l) (policy_lines (policy_of t e l)) (level_parts t e l)
    c.in_ok-put.ensures c.in_err-put_port_groups.field-0.0 c.in_err-put_port_groups.ensures)

pub returns-in_err-put_levels : goal.returns-in_err-put_levels
returns-in_err-put_levels g c =
    let t = c.args.reached.now.fabric in
    let e = c.args.reached.now.entries in
    let l = c.args.lanes.now in
    let p = err_from_is_err_and c.from_residual-in_err-put_levels.result c.from_residual-in_err-put_levels.ensures.1 in
    rw (p.1, p.2) (stopped_in_third (codes "# fabroute levels" ∷ []) (groups_part t e l) (levels_part t e l) (rules_part t e l) (policy_lines (policy_of t e l)) (level_parts t e l)
    c.in_ok-put.ensures c.in_ok-put_port_groups.ensures c.in_err-put_levels.field-0.0 c.in_err-put_levels.ensures)

pub returns : goal.returns
returns g c =
    let t = c.args.reached.now.fabric in
    let e = c.args.reached.now.entries in
    let l = c.args.lanes.now in
    four_put (codes "# fabroute levels" ∷ []) (groups_part t e l) (levels_part t e l) (rules_part t e l) (policy_lines (policy_of t e l)) (level_parts t e l)
    c.in_ok-put.ensures c.in_ok-put_port_groups.ensures c.in_ok-put_levels.ensures c.put_rules.result c.put_rules.ensures
