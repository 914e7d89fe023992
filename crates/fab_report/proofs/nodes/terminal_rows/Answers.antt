use Rattle.std.proofs.Common.{◌≡◌, ◌-◌, ◌+◌, ◌<◌, ◌++◌, [], ◌∷◌, length, arith, ap, ◌∙◌}
use Rattle.fab_model.specs.declared.rows.TerminalRow.{TerminalRow}
use Rattle.fab_report.specs.Recipes.{switch_count, terminal_at}
use Rattle.fab_report.proofs.Generated.TerminalLists.{places_so_far, rows_of, one_port_more, none_so_far, switch_done, number_small}
use Rattle.fab_report.proofs.nodes.terminal_rows.Goals as goal

pub overflow_cast-number : goal.overflow_cast-number
overflow_cast-number c =
    let r = c.args.recipe.now in
    let first = c.terminal_ports-first.result.0 in
    let small : length c.loop-port.rows.items + switch_count r.kind r.a r.b < 4096 =
    number_small r c.loop-s.s first c.terminal_ports-first.result.1 c.terminal_ports-first.ensures.ports (c.loop-port.port - first) c.loop-port.rows.items c.requires
    (omega (arith, c.loop-port-test.true, c.loop-port.auto.port)) (omega (arith, c.loop-s-test.true, c.switch_count-count.ensures)) c.loop-port.invariant in
    omega (arith, small, c.len-number.ensures)

pub terminal_row-requires : goal.terminal_row-requires
terminal_row-requires c =
    let r = c.args.recipe.now in
    let first = c.terminal_ports-first.result.0 in
    let small : length c.loop-port.rows.items + switch_count r.kind r.a r.b < 4096 =
    number_small r c.loop-s.s first c.terminal_ports-first.result.1 c.terminal_ports-first.ensures.ports (c.loop-port.port - first) c.loop-port.rows.items c.requires
    (omega (arith, c.loop-port-test.true, c.loop-port.auto.port)) (omega (arith, c.loop-s-test.true, c.switch_count-count.ensures)) c.loop-port.invariant in
    omega (arith, small, c.len-number.ensures, c.switch_count-count.ensures)

pub loop-port-init : goal.loop-port-init
loop-port-init c =
    let r = c.args.recipe.now in
    let first = c.terminal_ports-first.result.0 in
    let none : 0 ≡ first - first = omega arith in
    c.loop-s.invariant ∙ none_so_far r c.loop-s.s first ∙ ap (λ n. rows_of r (places_so_far r c.loop-s.s first n)) none

pub loop-port-preserved : goal.loop-port-preserved
loop-port-preserved c =
    let r = c.args.recipe.now in
    let first = c.terminal_ports-first.result.0 in
    let port = c.loop-port.port in
    let more : port - first + 1 ≡ port + 1 - first = omega (arith, c.loop-port.auto.port) in
    let number : c.len-number.result ≡ length c.loop-port.rows.items = omega (arith, c.len-number.ensures) in
    one_port_more r c.loop-s.s first (port - first) c.loop-port.rows.items c.push.new.self.items c.len-number.result port c.loop-port.invariant number (omega (arith, c.loop-port.auto.port))
    (c.in_ok-push.ensures.items ∙ ap (λ (row : TerminalRow). c.loop-port.rows.items ++ row ∷ []) (c.terminal_row.ensures ∙ ap (λ n. terminal_at n (c.len-number.result, (c.loop-s.s, port))) c.switch_count-count.ensures))
    ∙ ap (λ n. rows_of r (places_so_far r c.loop-s.s first n)) more

pub loop-s-preserved : goal.loop-s-preserved
loop-s-preserved c =
    let r = c.args.recipe.now in
    let first = c.terminal_ports-first.result.0 in
    let ports = c.terminal_ports-first.result.1 in
    let all : c.loop-port.port - first ≡ ports = omega (arith, c.loop-port-test.false, c.loop-port.auto.port, c.loop-port.auto.port-end) in
    switch_done r c.loop-s.s first ports c.terminal_ports-first.ensures.ports c.loop-port.rows.items (c.loop-port.invariant ∙ ap (λ n. rows_of r (places_so_far r c.loop-s.s first n)) all)
