use Rattle.std.proofs.Common.{◌≡◌, ◌∙◌, ℕ, List, Vec, Global, length, map, ap, arith}
use Rattle.fab_model.specs.declared.rows.TerminalId.{TerminalId}
use Rattle.fab_mcast.specs.GroupTrees.{group_ports}
use Rattle.fab_mcast.proofs.KeptTables.{one_entry_more, table_is}
use Rattle.fab_mcast.proofs.group_tables.plant_group.Goals as goal

pub loop-s-preserved : goal.loop-s-preserved
loop-s-preserved c =
    let entry : ℕ → List ℕ = group_ports c.args.fabric.now c.args.escape.now (map (λ (id : TerminalId). id.0) c.args.members.now) in
    ap (λ (kept : List (Vec ℕ Global)). map (λ (ports : Vec ℕ Global). ports.items) kept) c.in_ok-push.ensures.items
    ∙ one_entry_more entry c.loop-s.ports.items c.in_ok-ports-2.field-0 c.loop-s.s c.loop-s.invariant c.in_ok-ports-2.ensures

pub returns : goal.returns
returns c =
    let t = c.args.fabric.now in
    let whole : c.loop-s.s ≡ length t.switches = omega (arith, c.loop-s-test.false, c.loop-s.auto.s-end, c.switches-s-end.ensures.count) in
    table_is t c.args.escape.now c.args.members.now (record { members = c.in_ok-from_slice.field-0; ports = c.loop-s.ports }) c.loop-s.s c.in_ok-from_slice.ensures.items whole c.loop-s.invariant
