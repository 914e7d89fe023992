use Rattle.std.proofs.Common.{◌≡◌, ◌∙◌, Some, None, map, sym, ap}
use Rattle.std.specs.Prelude.{option_map}
use Rattle.fab_model.specs.declared.rows.TerminalId.{TerminalId}
use Rattle.fab_model.specs.Topology.{terminal_at}
use Rattle.fab_mcast.proofs.MemberPorts.{member_port_told, member_port_missing, seen_terminal}
use Rattle.fab_mcast.proofs.entries.is_member_port.Goals as goal

pub returns-in-Some : goal.returns-in-Some
returns-in-Some c =
    let there : terminal_at c.args.fabric.now c.args.s.0 c.args.port ≡ Some c.in-Some.terminal.0 =
    sym (seen_terminal (terminal_at c.args.fabric.now c.args.s.0 c.args.port)) ∙ ap (λ o. option_map (λ (id : TerminalId). id.0) o) (sym c.terminal_at.ensures ∙ c.in-Some.is) in
    c.contains.ensures ∙ sym (member_port_told c.args.fabric.now c.requires.fabric.rows (map (λ (id : TerminalId). id.0) c.args.members.now) c.args.s.0 c.args.port c.in-Some.terminal.0 there)

pub returns-in-None : goal.returns-in-None
returns-in-None c =
    let there : terminal_at c.args.fabric.now c.args.s.0 c.args.port ≡ None =
    sym (seen_terminal (terminal_at c.args.fabric.now c.args.s.0 c.args.port)) ∙ ap (λ o. option_map (λ (id : TerminalId). id.0) o) (sym c.terminal_at.ensures ∙ c.in-None.is) in
    sym (member_port_missing c.args.fabric.now c.requires.fabric.rows (map (λ (id : TerminalId). id.0) c.args.members.now) c.args.s.0 c.args.port there)
