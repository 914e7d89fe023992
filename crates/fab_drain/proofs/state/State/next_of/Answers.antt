use Rattle.std.proofs.Common.{◌∙◌, sym, arith}
use Rattle.fab_drain.proofs.HopCounts.{position_small}
use Rattle.fab_drain.proofs.Moving.{stands_there}
use Rattle.fab_drain.proofs.state.State.next_of.Goals as goal

pub overflow_add-packet : goal.overflow_add-packet
overflow_add-packet c =
    let t = c.args.fabric.now in
    let p = c.args.plan.now in
    let x = c.in_ok-packet.field-0 in
    let stands = stands_there t p c.args.self.now c.requires.load.fabric c.requires.admitted c.requires.load c.args.at x (sym c.get.ensures ∙ c.in_ok-packet.was) in
    omega (arith, position_small t p x.packet c.requires.load.fabric stands.is_packet)
