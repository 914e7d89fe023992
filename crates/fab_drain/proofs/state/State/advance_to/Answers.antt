use Rattle.std.proofs.Common.{◌≡◌, ◌∙◌, sym, subst, arith, Some, None}
use Rattle.std.proofs.Math.ListN.{length-set}
use Rattle.fab_tables.specs.Dependencies.{node_of}
use Rattle.fab_drain.specs.Loads.{IsPlace, Load, next_of}
use Rattle.fab_drain.proofs.Advancing.{next_is}
use Rattle.fab_drain.proofs.HopCounts.{position_small}
use Rattle.fab_drain.proofs.Moving.{stands_there, next_place}
use Rattle.fab_drain.proofs.state.State.advance_to.Goals as goal

pub get-requires-2 : goal.get-requires-2
get-requires-2 c = λ low.
    let t = c.args.fabric.now in
    let p = c.args.plan.now in
    let load = c.args.self.now in
    let x = c.in-Some.field-0 in
    let e = sym c.get.ensures ∙ c.in-Some.is in
    let after : next_of t p x.packet ≡ Some c.in-Some-next.next = sym (next_is t p load c.args.at x e) ∙ sym c.requires.next ∙ c.in-Some-next.is in
    (next_place t p load c.requires.load.fabric c.requires.admitted c.requires.load c.args.at c.in-Some-next.next x e after).1

pub overflow_add-packet : goal.overflow_add-packet
overflow_add-packet c =
    let t = c.args.fabric.now in
    let p = c.args.plan.now in
    let x = c.in-Some.field-0 in
    let stands = stands_there t p c.args.self.now c.requires.load.fabric c.requires.admitted c.requires.load c.args.at x (sym c.get.ensures ∙ c.in-Some.is) in
    omega (arith, position_small t p x.packet c.requires.load.fabric stands.is_packet)

pub set-requires-3 : goal.set-requires-3
set-requires-3 c =
    let t = c.args.fabric.now in
    let p = c.args.plan.now in
    let load = c.args.self.now in
    let x = c.in-Some.field-0 in
    let e = sym c.get.ensures ∙ c.in-Some.is in
    let after : next_of t p x.packet ≡ Some c.in-Some-next.next = sym (next_is t p load c.args.at x e) ∙ sym c.requires.next ∙ c.in-Some-next.is in
    let place = next_place t p load c.requires.load.fabric c.requires.admitted c.requires.load c.args.at c.in-Some-next.next x e after in
    subst (λ (l : Load). IsPlace l c.in-Some-next.next) (sym c.set-2.ensures) (place.0, omega (arith, place.1, length-set load.cells (node_of load.count c.args.at) None))
