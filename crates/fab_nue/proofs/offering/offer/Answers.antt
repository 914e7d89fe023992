use Rattle.std.proofs.Common.{◌≡◌, ◌∙◌, ◌+◌, ◌<◌, ◌≤◌, ℕ, length, refl, sym, subst, arith}
use Rattle.fab_model.specs.Topology.{first_channel}
use Rattle.fab_sssp.specs.WeightTables.{weight_of}
use Rattle.fab_sssp.proofs.Raising.TreePassing.{tip_read}
use Rattle.fab_sssp.proofs.Raising.WeightBounds.{weight_read, read_within}
use Rattle.fab_sssp.proofs.Walks.LeastChannels.{tip_within}
use Rattle.fab_nue.specs.Offers.{LeadsInto}
use Rattle.fab_nue.proofs.Heaps.Offering.{ReversesOne, room_left, offers_same, reversed_leads, leads_reversed, fresh, offers_more, offers_on}
use Rattle.fab_nue.specs.Search.{IsSettled}
use Rattle.std.proofs.lemmas.Bool.{MatchBool-at_true}
use Rattle.fab_nue.proofs.offering.offer.Goals as goal
use Rattle.fab_nue.proofs.offering.offer.Goals.{then-not-is_settled, else-not-is_settled}

pub is_settled-requires : goal.is_settled-requires
is_settled-requires c = omega (arith, tip_within c.args.fabric.now c.requires.fabric.rows c.loop-leaving.leaving c.tip-from.result c.tip-from.ensures, c.requires.tree)

pub overflow_add-weight : goal.overflow_add-weight
overflow_add-weight c = omega (arith, read_within c.args.weights.now c.reverse-channel.result.0 c.of.result c.of.ensures.kept c.of.ensures.weight, c.requires.small c.of.ensures.kept)

pub push-requires : goal.push-requires
push-requires c =
    let t = c.args.fabric.now in
    let low : c.loop-leaving.leaving < length t.channels = omega (arith, c.loop-leaving-test.true, c.leaves-first.ensures.within) in
    let past : c.loop-leaving.leaving < first_channel t (c.args.settled.0 + 1) = omega (arith, c.loop-leaving-test.true, c.leaves-first.ensures.past) in
    let from : first_channel t c.args.settled.0 ≤ c.loop-leaving.leaving = omega (arith, c.loop-leaving.auto.leaving, c.leaves-first.ensures.first) in
    omega (
      arith,
      room_left t c.loop-leaving.choices.entries c.reverse-channel.result.0 c.loop-leaving.invariant.offered.holds c.reverse-channel.ensures.within
          (fresh t c.requires.fabric.rows c.args.settled.0 c.args.to.0 c.args.tree.now (λ k. weight_of c.args.weights.now k + c.args.way) c.args.choices.now.entries c.loop-leaving.choices.entries c.requires.elsewhere
          c.loop-leaving.leaving c.reverse-channel.result.0 low from past c.reverse-channel.ensures.reverse c.loop-leaving.invariant.offered),
      c.loop-leaving.invariant.room,
      c.requires.room,
    )

pub loop-leaving-preserved : goal.loop-leaving-preserved
loop-leaving-preserved c =
    let t = c.args.fabric.now in
    let good = c.requires.fabric.rows in
    let s = c.args.settled.0 in
    let to = c.args.to.0 in
    let tree = c.args.tree.now in
    let n = c.loop-leaving.leaving in
    let C : ℕ → ℕ = λ k. weight_of c.args.weights.now k + c.args.way in
    let old = c.args.choices.now.entries in
    let now = c.loop-leaving.choices.entries in
    let low : n < length t.channels = omega (arith, c.loop-leaving-test.true, c.leaves-first.ensures.within) in
    let past : n < first_channel t (s + 1) = omega (arith, c.loop-leaving-test.true, c.leaves-first.ensures.past) in
    let from : first_channel t s ≤ n = omega (arith, c.loop-leaving.auto.leaving, c.leaves-first.ensures.first) in
    elim c.if-not-is_settled.branch [
      | then-not-is_settled w ↦
          rw w.choices-is (record {
            room = w.push.ensures.room ∙ c.loop-leaving.invariant.room;
            offered = offers_more t good s to tree C old now c.requires.elsewhere n w.reverse-channel.result.0 low from past w.reverse-channel.ensures.reverse c.loop-leaving.invariant.offered
                c.loop-leaving.choices w.push.new.self (record { weight = w.of.result + c.args.way; channel = w.reverse-channel.result }) refl refl
                (omega (arith, weight_read c.args.weights.now w.reverse-channel.result.0 w.of.result w.of.ensures.weight)) w.reverse-channel.ensures.within w.push.ensures;
          })
      | else-not-is_settled w ↦
          (let settled : IsSettled to tree c.tip-from.result.0 =
          MatchBool-at_true (IsSettled to tree c.tip-from.result.0) (¬ IsSettled to tree c.tip-from.result.0) w.if-not-is_settled.false c.is_settled.ensures in
          rw w.choices-is (record {
            room = c.loop-leaving.invariant.room;
            offered = offers_on t good s to tree C old now n low (subst (IsSettled to tree) (sym (tip_read t n c.tip-from.result c.tip-from.ensures)) settled) c.loop-leaving.invariant.offered;
          }))
    ]

pub returns-clause-offered : goal.returns-clause-offered
returns-clause-offered c =
    let t = c.args.fabric.now in
    let good = c.requires.fabric.rows in
    let s = c.args.settled.0 in
    let at : c.loop-leaving.leaving ≡ first_channel t (s + 1) = omega (arith, c.loop-leaving-test.false, c.loop-leaving.auto.leaving-end, c.leaves-first.ensures.past) in
    offers_same t c.args.to.0 c.args.tree.now (λ k. weight_of c.args.weights.now k + c.args.way) (ReversesOne t s c.loop-leaving.leaving) (LeadsInto t s) c.args.choices.now.entries c.loop-leaving.choices.entries
    (λ d x. reversed_leads t good s c.loop-leaving.leaving d (omega (arith, at)) x) (λ d x. leads_reversed t good s c.loop-leaving.leaving d (omega (arith, at)) x) c.loop-leaving.invariant.offered
