use Rattle.std.proofs.Common.{◌∙◌, ◌<◌, ℕ, length, refl, arith}
use Rattle.std.proofs.lemmas.Bool.{MatchBool-at_true, MatchBool-at_false}
use Rattle.fab_depgraph.specs.Listed.{IsListed}
use Rattle.fab_sssp.specs.WeightTables.{weight_of}
use Rattle.fab_nue.specs.Turns.{Crosses}
use Rattle.fab_nue.proofs.Heaps.Rebuilding.{holds_none, holds_skip, holds_room, holds_next, holds_all}
use Rattle.fab_nue.proofs.rebuilding.weigh_anew.Goals as goal
use Rattle.fab_nue.proofs.rebuilding.weigh_anew.Goals.{then-crosses, else-crosses}

pub loop-number-init : goal.loop-number-init
loop-number-init c = record {
  room = refl;
  holds = holds_none c.args.fabric.now (λ k. weight_of c.args.weights.now k) c.args.to.0 c.args.tree.now c.args.choices.now.entries c.requires.empty;
}

pub push-requires : goal.push-requires
push-requires c =
    let t = c.args.fabric.now in
    let W : ℕ → ℕ = λ k. weight_of c.args.weights.now k in
    let n = c.loop-number.number in
    let low : n < length t.channels = omega (arith, c.loop-number-test.true, c.channels-number-end.ensures.count) in
    omega (arith, holds_room t W c.args.to.0 c.args.tree.now n c.loop-number.choices.entries low c.loop-number.invariant.holds, c.loop-number.invariant.room, c.requires.room)

pub loop-number-preserved : goal.loop-number-preserved
loop-number-preserved c =
    let t = c.args.fabric.now in
    let W : ℕ → ℕ = λ k. weight_of c.args.weights.now k in
    let to = c.args.to.0 in
    let tree = c.args.tree.now in
    let n = c.loop-number.number in
    let low : n < length t.channels = omega (arith, c.loop-number-test.true, c.channels-number-end.ensures.count) in
    elim c.if-crosses.branch [
      | then-crosses w ↦
          (let crosses : Crosses t to tree n = MatchBool-at_true (Crosses t to tree n) (¬ Crosses t to tree n) w.if-crosses.true c.crosses.ensures in
          rw w.choices-is (record {
            room = w.push.ensures.room ∙ c.loop-number.invariant.room;
            holds = holds_next t W to tree n c.loop-number.choices w.push.new.self (record { weight = w.weight_of_way-weight.result; channel = record { 0 = n } }) refl low crosses.1
                w.weight_of_way-weight.ensures w.push.ensures c.loop-number.invariant.holds;
          }))
      | else-crosses w ↦
          (let not : ¬ Crosses t to tree n = MatchBool-at_false (Crosses t to tree n) (¬ Crosses t to tree n) w.if-crosses.false c.crosses.ensures in
          rw w.choices-is (record {
            room = c.loop-number.invariant.room;
            holds = holds_skip t W to tree n c.loop-number.choices.entries not c.loop-number.invariant.holds;
          }))
    ]

pub returns-clause-candidates : goal.returns-clause-candidates
returns-clause-candidates c = λ used.
    holds_all c.args.fabric.now (λ k. weight_of c.args.weights.now k) c.args.to.0 c.args.tree.now (IsListed used) c.loop-number.number c.loop-number.choices.entries
    (omega (arith, c.loop-number-test.false, c.loop-number.auto.number-end, c.channels-number-end.ensures.count)) c.loop-number.invariant.holds

pub returns-clause-once : goal.returns-clause-once
returns-clause-once c = c.loop-number.invariant.holds.holds
