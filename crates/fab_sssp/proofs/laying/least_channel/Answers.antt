use Rattle.std.proofs.Common.{◌≡◌, ◌∙◌, ◌<◌, ℕ, inr, length, None, Some, get_or, sym, subst, arith}
use Rattle.std.proofs.lemmas.Bool.{eqb-false}
use Rattle.fab_model.specs.Connected.{AreConnected}
use Rattle.fab_tables.specs.Route.{tip}
use Rattle.fab_sssp.specs.WeightTables.{weight_of}
use Rattle.fab_sssp.specs.LeastWeight.{IsDistance}
use Rattle.fab_sssp.proofs.Raising.TreePassing.{tip_read}
use Rattle.fab_sssp.proofs.Raising.WeightBounds.{weight_read, read_within}
use Rattle.fab_sssp.proofs.Walks.LeastChannels.{distance_read, none_left, tip_within, distance_within, missed_more, missed_apart, missed_other, first_is_least, one_begins}
use Rattle.fab_sssp.proofs.laying.least_channel.Goals as goal
use Rattle.fab_sssp.proofs.laying.least_channel.Goals.{in-Some+else-of-beyond, in_default}

pub returns-in_err-distance : goal.returns-in_err-distance
returns-in_err-distance c =
    let t = c.args.fabric.now in
    let W : ℕ → ℕ = λ k. weight_of c.args.weights.now k in
    rw c.from_residual.ensures (inr (distance_read t W c.args.to.0 c.args.distances.now c.args.s.0 None c.requires.distances c.requires.s c.in_err-distance.was))

pub bounds : goal.bounds
bounds c = omega (arith, tip_within c.args.fabric.now c.requires.fabric.rows c.loop-number.number c.tip.result c.tip.ensures, c.requires.distances.each_switch)

pub overflow_add-of : goal.overflow_add-of
overflow_add-of c =
    let t = c.args.fabric.now in
    let w = c.args.weights.now in
    let W : ℕ → ℕ = λ k. weight_of w k in
    omega (
      arith,
      read_within w c.loop-number.number c.of.result c.of.ensures.kept c.of.ensures.weight,
      distance_within t c.requires.fabric.rows w c.of.ensures.kept c.requires.made_for c.tip.result.0 c.args.to.0 c.in-Some.beyond
          (distance_read t W c.args.to.0 c.args.distances.now c.tip.result.0 (Some c.in-Some.beyond) c.requires.distances (tip_within t c.requires.fabric.rows c.loop-number.number c.tip.result c.tip.ensures) c.in-Some.is),
    )

pub returns-then-of-beyond : goal.returns-then-of-beyond
returns-then-of-beyond c =
    let t = c.args.fabric.now in
    let w = c.args.weights.now in
    let W : ℕ → ℕ = λ k. weight_of w k in
    let number = c.loop-number.number in
    let here : IsDistance t W c.args.s.0 c.args.to.0 c.in_ok-distance.distance =
    distance_read t W c.args.to.0 c.args.distances.now c.args.s.0 (Some c.in_ok-distance.distance) c.requires.distances c.requires.s c.in_ok-distance.was in
    let beyond : IsDistance t W c.tip.result.0 c.args.to.0 c.in-Some.beyond =
    distance_read t W c.args.to.0 c.args.distances.now c.tip.result.0 (Some c.in-Some.beyond) c.requires.distances (tip_within t c.requires.fabric.rows number c.tip.result c.tip.ensures) c.in-Some.is in
    let P : ℕ → Type 0 = λ q. IsDistance t W q c.args.to.0 c.in-Some.beyond in (
      eqb-false c.args.s.0 c.args.to.0 (sym c.eq.ensures ∙ c.if-eq.false),
      first_is_least t c.requires.fabric.rows W c.args.s.0 c.args.to.0 c.in_ok-distance.distance here number c.in-Some.beyond (omega (arith, c.loop-number-test.true, c.leaves-first.ensures.within))
          (omega (arith, c.loop-number.auto.number, c.leaves-first.ensures.first)) (omega (arith, c.loop-number-test.true, c.leaves-first.ensures.past)) c.loop-number.invariant
          (subst P (sym (tip_read t number c.tip.result c.tip.ensures)) beyond) (omega (arith, c.if-of-beyond.true, weight_read w number c.of.result c.of.ensures.weight))
          (omega (arith, c.of.ensures.positive, weight_read w number c.of.result c.of.ensures.weight)),
    )

pub loop-number-preserved : goal.loop-number-preserved
loop-number-preserved c =
    let t = c.args.fabric.now in
    let w = c.args.weights.now in
    let W : ℕ → ℕ = λ k. weight_of w k in
    let number = c.loop-number.number in
    let low : c.tip.result.0 < length t.switches = tip_within t c.requires.fabric.rows number c.tip.result c.tip.ensures in
    let read : tip t number ≡ c.tip.result.0 = tip_read t number c.tip.result c.tip.ensures in
    missed_more t W c.args.s.0 c.args.to.0 c.in_ok-distance.distance number c.loop-number.invariant
    (elim c.match-distances-tip.branch [
      | in-Some+else-of-beyond m ↦
          (let P : ℕ → Type 0 = λ q. IsDistance t W q c.args.to.0 m.in-Some.beyond in
          missed_other t W c.args.to.0 c.in_ok-distance.distance number m.in-Some.beyond
          (subst P (sym read) (distance_read t W c.args.to.0 c.args.distances.now c.tip.result.0 (Some m.in-Some.beyond) c.requires.distances low m.in-Some.is))
          (λ e. m.if-of-beyond.false (omega (arith, e, weight_read w number m.of.result m.of.ensures.weight))))
      | in_default m ↦
          missed_apart t W c.args.to.0 c.in_ok-distance.distance number
          (λ joined. distance_read t W c.args.to.0 c.args.distances.now c.tip.result.0 None c.requires.distances low (none_left (get_or c.args.distances.now c.tip.result.0 None) m.in_default.not-Some)
          (subst (λ q. AreConnected t q c.args.to.0) read joined))
    ])

pub returns : goal.returns
returns c =
    let t = c.args.fabric.now in
    let W : ℕ → ℕ = λ k. weight_of c.args.weights.now k in
    let here : IsDistance t W c.args.s.0 c.args.to.0 c.in_ok-distance.distance =
    distance_read t W c.args.to.0 c.args.distances.now c.args.s.0 (Some c.in_ok-distance.distance) c.requires.distances c.requires.s c.in_ok-distance.was in
    absurd (one_begins t c.requires.fabric.rows W c.args.s.0 c.args.to.0 c.in_ok-distance.distance here (eqb-false c.args.s.0 c.args.to.0 (sym c.eq.ensures ∙ c.if-eq.false)) c.loop-number.number
    (omega (arith, c.loop-number-test.false, c.leaves-first.ensures.past)) c.loop-number.invariant)
