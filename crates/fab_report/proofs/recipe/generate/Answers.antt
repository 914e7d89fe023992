use Rattle.std.proofs.Common.{◌≡◌, List, length, arith, sym, ap, ◌∙◌, subst}
use Rattle.std.specs.Prelude.{IfOk}
use Rattle.std.proofs.lemmas.Result.{IfOk-weaker}
use Rattle.fab_model.specs.declared.rows.TerminalRow.{TerminalRow}
use Rattle.fab_model.specs.Topology.{Topology, HasNoOwnCable}
use Rattle.fab_model.specs.WellFormed.{IsFabric}
use Rattle.fab_report.specs.Recipes.{terminal_places, generated}
use Rattle.fab_report.proofs.Cabling.AllCables.{generated_has_no_own_cable}
use Rattle.fab_report.proofs.Generated.GeneratedRows.{is_fabric}
use Rattle.fab_report.proofs.Generated.NodeRows.{lists_are}
use Rattle.fab_report.proofs.Generated.Places.{are_places}
use Rattle.fab_report.proofs.Generated.TerminalLists.{length-rows_of}
use Rattle.fab_report.proofs.recipe.generate.Goals as goal

pub overflow_cast-len : goal.overflow_cast-len
overflow_cast-len c =
    let r = c.args.recipe.now in
    omega (arith, c.len.ensures, ap (λ (rows : List TerminalRow). length rows) c.in_ok-terminals.ensures, length-rows_of r (terminal_places r), (are_places r.kind r.a r.b c.requires).lids)

pub adapter_rows-requires : goal.adapter_rows-requires
adapter_rows-requires c =
    let r = c.args.recipe.now in
    omega (arith, c.len.ensures, ap (λ (rows : List TerminalRow). length rows) c.in_ok-terminals.ensures, length-rows_of r (terminal_places r), (are_places r.kind r.a r.b c.requires).lids)

pub of_rows-requires : goal.of_rows-requires
of_rows-requires c =
    let r = c.args.recipe.now in
    let count : c.len.result ≡ length (terminal_places r) = omega (arith, c.len.ensures, ap (λ (rows : List TerminalRow). length rows) c.in_ok-terminals.ensures, length-rows_of r (terminal_places r)) in
    subst IsFabric
    (sym (lists_are r c.len.result c.in_ok-switches.switches.items c.in_ok-adapters.adapters.items c.in_ok-channels.channels.items c.in_ok-terminals.terminals.items c.deref.result.now
    c.in_ok-switches.ensures c.in_ok-adapters.ensures count
    c.in_ok-channels.ensures (c.deref.ensures.value ∙ c.in_ok-cables.ensures) c.in_ok-terminals.ensures))
    (is_fabric r c.requires)

pub returns-clause-rows : goal.returns-clause-rows
returns-clause-rows c =
    let r = c.args.recipe.now in
    let count : c.len.result ≡ length (terminal_places r) = omega (arith, c.len.ensures, ap (λ (rows : List TerminalRow). length rows) c.in_ok-terminals.ensures, length-rows_of r (terminal_places r)) in
    subst (λ (t : Topology). IfOk c.of_rows.result (λ (fabric : Topology). fabric ≡ t))
    (lists_are r c.len.result c.in_ok-switches.switches.items c.in_ok-adapters.adapters.items c.in_ok-channels.channels.items c.in_ok-terminals.terminals.items c.deref.result.now
    c.in_ok-switches.ensures c.in_ok-adapters.ensures count
    c.in_ok-channels.ensures (c.deref.ensures.value ∙ c.in_ok-cables.ensures) c.in_ok-terminals.ensures)
    c.of_rows.ensures.rows

pub returns-clause-no_own_cable : goal.returns-clause-no_own_cable
returns-clause-no_own_cable c =
    let r = c.args.recipe.now in
    IfOk-weaker c.of_rows.result (λ (fabric : Topology). fabric ≡ generated r) HasNoOwnCable (λ fabric same. subst HasNoOwnCable (sym same) (generated_has_no_own_cable r c.requires)) (returns-clause-rows c)
