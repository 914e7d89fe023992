use Rattle.std.proofs.Common.{◌≡◌, Err, rules, sym, subst}
use Rattle.std.specs.Option.{option_or}
use Rattle.fab_model.specs.Faults.{first_of, first_fault}
use Rattle.fab_model.specs.FirstFault.{FindsFault, node_rows, link_rows, lid_rows}
use Rattle.fab_model.proofs.FirstFault.{first_fault_parts, found_first, found_rest}
use Rattle.fab_model.proofs.first_fault.find_fault.Goals as goal

pub returns-in_err-by_guid : goal.returns-in_err-by_guid
returns-in_err-by_guid c =
    let raw = c.args.raw.now in
    let e = c.in_err-by_guid.field-0.0 in
    let gave : c.from_residual.result ≡ Err e = search rules in
    let nodes = first_of (node_rows raw) in
    let rest = option_or (first_of (link_rows raw)) (first_of (lid_rows raw)) in
    subst (λ result. FindsFault result (first_fault raw)) (sym gave)
    (subst (FindsFault {X = Unit {0}} (Err e)) (sym (first_fault_parts raw)) (found_first e nodes rest c.in_err-by_guid.ensures.found))

pub returns-in_err-find_link_fault : goal.returns-in_err-find_link_fault
returns-in_err-find_link_fault c =
    let raw = c.args.raw.now in
    let e = c.in_err-find_link_fault.field-0.0 in
    let gave : c.from_residual-in_err-find_link_fault.result ≡ Err e = search rules in
    let nodes = first_of (node_rows raw) in
    let links = first_of (link_rows raw) in
    let lids = first_of (lid_rows raw) in
    subst (λ result. FindsFault result (first_fault raw)) (sym gave)
    (subst (FindsFault {X = Unit {0}} (Err e)) (sym (first_fault_parts raw))
    (found_rest (Err e) nodes (option_or links lids) c.in_ok-by_guid.ensures.found (found_first e links lids c.in_err-find_link_fault.ensures)))

pub returns : goal.returns
returns c =
    let raw = c.args.raw.now in
    let links = first_of (link_rows raw) in
    let lids = first_of (lid_rows raw) in
    subst (FindsFault c.find_lid_fault.result) (sym (first_fault_parts raw))
    (found_rest c.find_lid_fault.result (first_of (node_rows raw)) (option_or links lids) c.in_ok-by_guid.ensures.found
    (found_rest c.find_lid_fault.result links lids c.in_ok-find_link_fault.ensures c.find_lid_fault.ensures))
