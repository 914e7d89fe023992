use Rattle.std.proofs.Common.{◌≡◌, ◌<◌, ◌≤◌, ◌∙◌, ◌+◌, ℕ, Bool, true, false, List, Option, Vec, Global, length, map, unwrap_or, option_map, sym, ap, arith}
use Rattle.std.specs.Prelude.{◌||◌}
use Rattle.std.proofs.lemmas.Bool.{or_left, or_right}
use Rattle.std.proofs.lemmas.List.{get_or_default}
use Rattle.fab_model.specs.declared.rows.SwitchRow.{SwitchRow}
use Rattle.fab_model.specs.declared.rows.TerminalId.{TerminalId}
use Rattle.fab_model.specs.Topology.{ports_of}
use Rattle.fab_mcast.specs.GroupTrees.{is_member_port, is_tree_port}
use Rattle.fab_mcast.specs.Ways.{is_passed}
use Rattle.fab_mcast.proofs.MarkedWays.{tree_fits}
use Rattle.fab_mcast.proofs.MemberPorts.{entry_is, port_in, port_out}
use Rattle.fab_mcast.proofs.PlantedTrees.{ports_few}
use Rattle.fab_mcast.proofs.TreePorts.{unmarked_has_none}
use Rattle.fab_mcast.proofs.ways.MarkedTree.ports.Goals as goal
use Rattle.fab_mcast.proofs.ways.MarkedTree.ports.Goals.{then-of_member+in_ok-push, then-of_member-via-then-of_member, then-of_member-via-else-of_member+then-is_tree_port, else-of_member+else-is_tree_port}

pub returns-then-not-index : goal.returns-then-not-index
returns-then-not-index c =
    let passed = c.args.self.now.passed.items in
    let s : ℕ = c.args.s.0 in
    let low : s < length passed = omega (arith, c.requires.switch, c.requires.marked.each_passed) in
    let unmarked : is_passed passed s ≡ false = get_or_default passed s false c.index.result.now low ∙ sym c.index.ensures ∙ c.if-not-index.true in
    c.new-ports.ensures.items
    ∙ sym (unmarked_has_none c.args.fabric.now c.requires.fabric.rows c.args.escape.now c.requires.forest (map (λ (id : TerminalId). id.0) c.args.members.now) c.args.self.now.homes.items passed c.requires.marked s c.requires.switch unmarked)

pub overflow_add-past : goal.overflow_add-past
overflow_add-past c =
    let t = c.args.fabric.now in
    omega (arith, ports_few t c.requires.fabric.rows c.args.s.0, ap (λ (o : Option SwitchRow). unwrap_or (option_map (λ (x : SwitchRow). x.ports) o) 0) c.switch.ensures)

pub is_tree_port-requires-clause-fits : goal.is_tree_port-requires-clause-fits
is_tree_port-requires-clause-fits c =
    tree_fits c.args.fabric.now c.requires.fabric.rows c.args.escape.now c.requires.forest (map (λ (id : TerminalId). id.0) c.args.members.now) c.args.self.now.homes.items c.args.self.now.passed.items c.requires.marked

pub loop-port-preserved : goal.loop-port-preserved
loop-port-preserved c =
    let t = c.args.fabric.now in
    let f = c.args.escape.now in
    let members : List ℕ = map (λ (id : TerminalId). id.0) c.args.members.now in
    let s : ℕ = c.args.s.0 in
    let port : ℕ = c.loop-port.port in
    let of_member : Bool = is_member_port t members s port in
    let of_tree : Bool = is_tree_port t f members s port in
    let is_port : ℕ → Bool = λ p. is_member_port t members s p || is_tree_port t f members s p in
    let found : List ℕ = c.loop-port.ports.items in
    let some : 1 ≤ port = c.loop-port.auto.port in
    elim c.if-of_member.branch [
      | then-of_member+in_ok-push w ↦
          (let here : is_port port ≡ true = elim w.then-of_member.branch [
            | then-of_member-via-then-of_member w' ↦ or_left of_member of_tree (sym c.is_member_port-of_member.ensures ∙ w'.if-of_member.true)
            | then-of_member-via-else-of_member+then-is_tree_port w' ↦ or_right of_member of_tree (sym (w'.is_tree_port.ensures members c.requires.marked) ∙ w'.if-is_tree_port.true)
          ] in
          port_in is_port port found c.if-of_member.ports.items some c.loop-port.invariant (ap (λ (v : Vec ℕ Global). v.items) w.ports-is ∙ w.in_ok-push.ensures.items) here)
      | else-of_member+else-is_tree_port w ↦
          (let no_member : of_member ≡ false = sym c.is_member_port-of_member.ensures ∙ w.if-of_member.false in
          let no_cable : of_tree ≡ false = sym (w.is_tree_port.ensures members c.requires.marked) ∙ w.if-is_tree_port.false in
          port_out is_port port found c.if-of_member.ports.items some c.loop-port.invariant (ap (λ (v : Vec ℕ Global). v.items) w.ports-is) (ap (λ b. b || of_tree) no_member ∙ no_cable))
    ]

pub returns : goal.returns
returns c =
    let t = c.args.fabric.now in
    let s : ℕ = c.args.s.0 in
    let ports : ℕ = c.switch.result.now.ports in
    let counted : ports_of t s ≡ ports = ap (λ (o : Option SwitchRow). unwrap_or (option_map (λ (x : SwitchRow). x.ports) o) 0) c.switch.ensures in
    let last : c.loop-port.port ≡ ports + 1 = omega (arith, c.loop-port-test.false, c.loop-port.auto.port-end) in
    entry_is t c.requires.fabric.rows c.args.escape.now c.requires.forest (map (λ (id : TerminalId). id.0) c.args.members.now) c.args.self.now.homes.items c.args.self.now.passed.items c.requires.marked s c.requires.switch
    ports c.loop-port.port c.loop-port.ports.items (sym counted) last c.loop-port.invariant
