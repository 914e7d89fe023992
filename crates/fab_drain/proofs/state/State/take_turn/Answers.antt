use Rattle.std.proofs.Common.{◌≡◌, ◌∙◌, ◌<◌, length, refl, sym, ap, subst, Some}
use Rattle.fab_tables.specs.declared.verdict.VirtualChannel.{VirtualChannel}
use Rattle.fab_drain.specs.declared.packet.Moved.{Moved}
use Rattle.fab_drain.specs.declared.packet.Moved.TheVariants.{Went, Left, Waits, Nothing}
use Rattle.fab_drain.specs.Loads.{Load, channel_of_cell}
use Rattle.fab_drain.specs.Moves.{advanced, next_at}
use Rattle.fab_drain.specs.Turns.{AreTurns, AreWoken}
use Rattle.fab_drain.proofs.Advancing.{Outcome, outcome_by, move_by}
use Rattle.fab_drain.proofs.Turning.{channel_low, least_mover}
use Rattle.fab_drain.proofs.TurnTaken.{turn_nothing, turn_waits, turn_leaves, turn_goes, reached_low}
use Rattle.fab_drain.proofs.state.State.take_turn.Goals as goal

pub next_of-next-requires-clause-at : goal.next_of-next-requires-clause-at
next_of-next-requires-clause-at c =
    subst (λ (u : VirtualChannel). u.channel.0 < length c.args.fabric.now.channels) (sym c.channel_of-at.ensures)
    (channel_low c.args.fabric.now c.args.plan.now c.args.self.now c.requires.load c.args.number c.args.turns.now.ready.keys c.args.turns.now.waiting c.requires.turns)

pub advance_to-requires-clause-at : goal.advance_to-requires-clause-at
advance_to-requires-clause-at c =
    subst (λ (u : VirtualChannel). u.channel.0 < length c.args.fabric.now.channels) (sym c.channel_of-at.ensures)
    (channel_low c.args.fabric.now c.args.plan.now c.args.self.now c.requires.load c.args.number c.args.turns.now.ready.keys c.args.turns.now.waiting c.requires.turns)

pub returns-in-Nothing-clause-moved : goal.returns-in-Nothing-clause-moved
returns-in-Nothing-clause-moved c =
    let old = c.args.self.now in
    let x : Outcome c.args.fabric.now c.args.plan.now old (channel_of_cell old.count c.args.number) Nothing c.advance_to.new.self =
    outcome_by c.args.fabric.now c.args.plan.now old c.advance_to.new.self (channel_of_cell old.count c.args.number) c.channel_of-at.result Nothing c.channel_of-at.ensures c.in-Nothing.ensures.moved in
    (x.1, refl)

pub returns-in-Nothing-clause-turns : goal.returns-in-Nothing-clause-turns
returns-in-Nothing-clause-turns c =
    let old = c.args.self.now in
    turn_nothing c.args.fabric.now c.args.plan.now old c.advance_to.new.self c.requires.load c.requires.admitted c.args.number c.args.turns.now.ready.keys c.args.turns.now.waiting c.requires.turns
    (outcome_by c.args.fabric.now c.args.plan.now old c.advance_to.new.self (channel_of_cell old.count c.args.number) c.channel_of-at.result Nothing c.channel_of-at.ensures c.in-Nothing.ensures.moved)

pub number_of-reached-requires : goal.number_of-reached-requires
number_of-reached-requires c =
    let t = c.args.fabric.now in
    let p = c.args.plan.now in
    let old = c.args.self.now in
    let new = c.advance_to.new.self in
    let v : VirtualChannel = channel_of_cell old.count c.args.number in
    let u = c.unwrap-in-Went.result in
    let after : next_at t p old v ≡ Some u = ap (λ w. next_at t p old w) (sym c.channel_of-at.ensures) ∙ sym c.next_of-next.ensures ∙ c.unwrap-in-Went.ensures in
    reached_low t p old new c.requires.load c.requires.admitted c.args.number c.args.turns.now.ready.keys c.args.turns.now.waiting c.requires.turns u
    (outcome_by t p old new v c.channel_of-at.result Went c.channel_of-at.ensures c.in-Went.ensures.moved) after

pub returns-in_ok-push-in-Waits-clause-turns : goal.returns-in_ok-push-in-Waits-clause-turns
returns-in_ok-push-in-Waits-clause-turns c =
    let t = c.args.fabric.now in
    let p = c.args.plan.now in
    let old = c.args.self.now in
    let new = c.advance_to.new.self in
    let ready = c.args.turns.now.ready.keys in
    let waiting = c.args.turns.now.waiting in
    let v : VirtualChannel = channel_of_cell old.count c.args.number in
    let u = c.unwrap.result in
    let after : next_at t p old v ≡ Some u = ap (λ w. next_at t p old w) (sym c.channel_of-at.ensures) ∙ sym c.next_of-next.ensures ∙ c.unwrap.ensures in
    subst (λ lists. AreTurns t p new ready lists) (sym c.in_ok-push-in-Waits.ensures)
    (turn_waits t p old new c.requires.load c.requires.admitted c.args.number ready waiting c.requires.turns u c.number_of-awaited.result
    (outcome_by t p old new v c.channel_of-at.result Waits c.channel_of-at.ensures c.in-Waits.ensures.moved) after c.number_of-awaited.ensures)

pub returns-in_ok-wake-in-Went-clause-moved : goal.returns-in_ok-wake-in-Went-clause-moved
returns-in_ok-wake-in-Went-clause-moved c =
    let t = c.args.fabric.now in
    let p = c.args.plan.now in
    let old = c.args.self.now in
    let new = c.advance_to.new.self in
    let v : VirtualChannel = channel_of_cell old.count c.args.number in (
      v,
      least_mover t p old c.requires.load c.args.number c.args.turns.now.ready.keys c.args.turns.now.waiting c.requires.turns c.requires.least
          (move_by t p old new v c.channel_of-at.result Went c.channel_of-at.ensures c.in-Went.ensures.moved tt),
      ap (λ (r : Moved × Load). r.1) (c.in-Went.ensures.moved ∙ ap (λ w. advanced t p old w) c.channel_of-at.ensures),
    )

pub returns-in_ok-wake-in-Went-clause-turns : goal.returns-in_ok-wake-in-Went-clause-turns
returns-in_ok-wake-in-Went-clause-turns c =
    let t = c.args.fabric.now in
    let p = c.args.plan.now in
    let old = c.args.self.now in
    let new = c.advance_to.new.self in
    let ready = c.args.turns.now.ready.keys in
    let waiting = c.args.turns.now.waiting in
    let v : VirtualChannel = channel_of_cell old.count c.args.number in
    let u = c.unwrap-in-Went.result in
    let after : next_at t p old v ≡ Some u = ap (λ w. next_at t p old w) (sym c.channel_of-at.ensures) ∙ sym c.next_of-next.ensures ∙ c.unwrap-in-Went.ensures in
    turn_goes t p old new c.requires.load c.requires.admitted c.args.number ready waiting c.requires.turns u c.number_of-reached.result c.wake.new.self.ready.keys c.wake.new.self.waiting
    (outcome_by t p old new v c.channel_of-at.result Went c.channel_of-at.ensures c.in-Went.ensures.moved) after c.number_of-reached.ensures
    (subst (λ ks. AreWoken c.args.number ks c.wake.new.self.ready.keys waiting c.wake.new.self.waiting) c.in_ok-insert-in-Went.ensures.keys c.in_ok-wake-in-Went.ensures)

pub returns-in_ok-wake-in-Left-clause-moved : goal.returns-in_ok-wake-in-Left-clause-moved
returns-in_ok-wake-in-Left-clause-moved c =
    let t = c.args.fabric.now in
    let p = c.args.plan.now in
    let old = c.args.self.now in
    let new = c.advance_to.new.self in
    let v : VirtualChannel = channel_of_cell old.count c.args.number in (
      v,
      least_mover t p old c.requires.load c.args.number c.args.turns.now.ready.keys c.args.turns.now.waiting c.requires.turns c.requires.least
          (move_by t p old new v c.channel_of-at.result Left c.channel_of-at.ensures c.in-Left.ensures.moved tt),
      ap (λ (r : Moved × Load). r.1) (c.in-Left.ensures.moved ∙ ap (λ w. advanced t p old w) c.channel_of-at.ensures),
    )

pub returns-in_ok-wake-in-Left-clause-turns : goal.returns-in_ok-wake-in-Left-clause-turns
returns-in_ok-wake-in-Left-clause-turns c =
    let t = c.args.fabric.now in
    let p = c.args.plan.now in
    let old = c.args.self.now in
    let new = c.advance_to.new.self in
    let v : VirtualChannel = channel_of_cell old.count c.args.number in
    turn_leaves t p old new c.requires.load c.requires.admitted c.args.number c.args.turns.now.ready.keys c.args.turns.now.waiting c.requires.turns c.wake-in-Left.new.self.ready.keys c.wake-in-Left.new.self.waiting
    (outcome_by t p old new v c.channel_of-at.result Left c.channel_of-at.ensures c.in-Left.ensures.moved) c.in_ok-wake-in-Left.ensures
