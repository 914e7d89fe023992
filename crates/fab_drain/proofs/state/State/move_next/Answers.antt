use Rattle.std.proofs.Common.{◌≡◌, ◌∙◌, ◌∷◌, ℕ, List, length, refl, sym, ap, subst, arith}
use Rattle.std.specs.Prelude.{MatchBool}
use Rattle.fab_drain.specs.Loads.{IsLoad}
use Rattle.fab_drain.specs.Drains.{IsStill}
use Rattle.fab_drain.specs.Turns.{AreTurns, IsMoveByRule}
use Rattle.fab_drain.proofs.Turning.{none_ready}
use Rattle.fab_drain.proofs.state.State.move_next.Goals as goal

pub loop-number-init : goal.loop-number-init
loop-number-init c = record { same = refl; turns = c.requires.turns }

pub take_turn-requires-clause-load : goal.take_turn-requires-clause-load
take_turn-requires-clause-load c = subst (λ l. IsLoad c.args.fabric.now c.args.plan.now l) (sym c.loop-number.invariant.same) c.requires.load

pub take_turn-requires-clause-turns : goal.take_turn-requires-clause-turns
take_turn-requires-clause-turns c =
    let t = c.args.fabric.now in
    let p = c.args.plan.now in
    subst (λ lists. AreTurns t p c.loop-number.self (c.in-Some.number ∷ c.take_first.new.self.ready.keys) lists) (sym c.in-Some.ensures.waiting)
    (subst (λ ks. AreTurns t p c.loop-number.self ks c.loop-number.turns.waiting) c.in-Some.ensures.taken c.loop-number.invariant.turns)

pub loop-number-smaller : goal.loop-number-smaller
loop-number-smaller c =
    let stayed : (c.take_turn.new.self ≡ c.loop-number.self) × (c.take_turn.new.turns.ready.keys ≡ c.take_first.new.self.ready.keys) =
    subst (λ b. MatchBool b (IsMoveByRule c.args.fabric.now c.args.plan.now c.loop-number.self c.take_turn.new.self) ((c.take_turn.new.self ≡ c.loop-number.self) × (c.take_turn.new.turns.ready.keys ≡ c.take_first.new.self.ready.keys)))
    c.if-branch.false c.in_ok-take_turn.ensures.moved in
    omega (arith, ap (λ (ks : List ℕ). length ks) stayed.1, ap (λ (ks : List ℕ). length ks) c.in-Some.ensures.taken)

pub loop-number-preserved : goal.loop-number-preserved
loop-number-preserved c =
    let stayed : (c.take_turn.new.self ≡ c.loop-number.self) × (c.take_turn.new.turns.ready.keys ≡ c.take_first.new.self.ready.keys) =
    subst (λ b. MatchBool b (IsMoveByRule c.args.fabric.now c.args.plan.now c.loop-number.self c.take_turn.new.self) ((c.take_turn.new.self ≡ c.loop-number.self) × (c.take_turn.new.turns.ready.keys ≡ c.take_first.new.self.ready.keys)))
    c.if-branch.false c.in_ok-take_turn.ensures.moved in
    record { same = stayed.0 ∙ c.loop-number.invariant.same; turns = c.in_ok-take_turn.ensures.turns }

pub returns : goal.returns
returns c =
    let t = c.args.fabric.now in
    let p = c.args.plan.now in
    let is = c.loop-number.invariant in
    let waiting = c.loop-number.turns.waiting in
    record {
      moved = (
        subst (λ load. IsStill t p load) is.same (none_ready t p c.loop-number.self waiting (subst (λ ks. AreTurns t p c.loop-number.self ks waiting) c.in_default.ensures.none is.turns)),
        is.same,
      );
      turns = subst (λ lists. AreTurns t p c.loop-number.self c.take_first.new.self.ready.keys lists) (sym c.in_default.ensures.waiting)
          (subst (λ ks. AreTurns t p c.loop-number.self ks waiting) (sym c.in_default.ensures.unchanged) is.turns);
    }
