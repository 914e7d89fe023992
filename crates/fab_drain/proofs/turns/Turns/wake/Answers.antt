use Rattle.std.proofs.Common.{◌≡◌, ◌+◌, length, sym, subst, arith}
use Rattle.std.proofs.lemmas.Option.{slice_get-get_or}
use Rattle.fab_drain.specs.Turns.{those_for, AreWoken}
use Rattle.fab_drain.proofs.Readying.{IsWaking, waking_begins, wakes_one, all_woken}
use Rattle.fab_drain.proofs.turns.Turns.wake.Goals as goal

pub loop-number-init : goal.loop-number-init
loop-number-init c = waking_begins c.args.self.now.ready.keys c.of-number-items.result.now

pub loop-number-preserved : goal.loop-number-preserved
loop-number-preserved c =
    let k = c.loop-number.number-index in
    subst (λ ks. IsWaking c.args.self.now.ready.keys ks c.of-number-items.result.now (k + 1)) (sym c.in_ok-insert.ensures.keys)
    (wakes_one c.args.self.now.ready.keys c.loop-number.self.1.0.keys c.of-number-items.result.now k _ c.loop-number.invariant (slice_get-get_or c.of-number-items.result.now k 0 c.loop-number-test.true))

pub returns : goal.returns
returns c =
    let left = c.args.left in
    let ready = c.args.self.now.ready.keys in
    let now = c.loop-number.self.1.0.keys in
    let waiting = c.args.self.now.waiting in
    let all : c.loop-number.number-index ≡ length c.of-number-items.result.now = omega (arith, c.loop-number-test.false, c.loop-number.auto.number-index-end) in
    let woken : IsWaking ready now (those_for waiting left) (length (those_for waiting left)) =
    subst (λ xs. IsWaking ready now xs (length xs)) c.of-number-items.ensures (subst (λ n. IsWaking ready now c.of-number-items.result.now n) all c.loop-number.invariant) in
    subst (λ lists. AreWoken left ready now waiting lists) (sym c.clear.ensures) (all_woken left ready now waiting c.requires woken)
