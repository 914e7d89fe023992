use Rattle.std.proofs.Common.{◌≡◌, ◌<◌, ◌∙◌, None, length, refl, arith}
use Rattle.fab_tables.specs.Components.{component_of}
use Rattle.fab_tables.proofs.Joined.Search.{none_found, some_found, pending_below, to_front, keeps_others}
use Rattle.fab_tables.proofs.Joined.Tips.{tip_within, numbers_new, numbers_old, one_more, tips_done}
use Rattle.fab_tables.proofs.components.number_tips.Goals as goal
use Rattle.fab_tables.proofs.components.number_tips.Goals.{then-is_none+in_ok-push, else-is_none}

pub leaves-first-requires : goal.leaves-first-requires
leaves-first-requires c = pending_below c.args.fabric.now c.args.number c.args.numbers.now c.args.pending.now.items c.args.switch c.requires.searching

pub loop-channel-init : goal.loop-channel-init
loop-channel-init c = (
  record {
    searching = to_front c.args.fabric.now c.args.number c.args.numbers.now c.args.pending.now.items c.args.switch c.requires.searching;
    tips = λ k d low high. absurd (omega (arith, c.leaves-first.ensures.first));
  },
  (λ s r e. e),
  refl,
)

pub bounds-numbers-tip : goal.bounds-numbers-tip
bounds-numbers-tip c = omega (
  arith,
  c.loop-channel.invariant.0.searching.whole,
  tip_within c.args.fabric.now c.requires.fabric c.args.number c.args.switch c.loop-channel.channel c.tip-tip.result (omega arith) (omega arith) c.tip-tip.ensures,
)

pub bounds-numbers-tip-then-is_none : goal.bounds-numbers-tip-then-is_none
bounds-numbers-tip-then-is_none c = omega (
  arith,
  c.loop-channel.invariant.0.searching.whole,
  tip_within c.args.fabric.now c.requires.fabric c.args.number c.args.switch c.loop-channel.channel c.tip-tip.result (omega arith) (omega arith) c.tip-tip.ensures,
)

pub loop-channel-preserved : goal.loop-channel-preserved
loop-channel-preserved c =
    let t = c.args.fabric.now in
    let numbers = c.loop-channel.numbers in
    let pending = c.loop-channel.pending.items in
    let tip = c.tip-tip.result in
    let before = c.loop-channel.invariant in
    elim c.if-is_none.branch [
      | then-is_none+in_ok-push w ↦
          (let none : component_of numbers tip.0 ≡ None = none_found _ _ c.is_none.ensures w.if-is_none.true in
          let low : tip.0 < length numbers = omega (arith, before.0.searching.whole, tip_within t c.requires.fabric c.args.number c.args.switch c.loop-channel.channel tip (omega arith) (omega arith) c.tip-tip.ensures) in
          rw (w.numbers-is, w.pending-is, w.in_ok-push.ensures.items) (
            numbers_new t c.requires.fabric c.args.number c.args.switch c.loop-channel.channel tip (omega arith) (omega arith) c.tip-tip.ensures numbers pending before.0 none,
            (λ s r e. keeps_others t numbers tip.0 c.args.number low none s r (before.1 s r e)),
            one_more numbers pending tip c.args.number low none ∙ before.2,
          ))
      | else-is_none w ↦
          rw (w.numbers-is, w.pending-is) (
            numbers_old t c.requires.fabric c.args.number c.args.switch c.loop-channel.channel tip (omega arith) (omega arith) c.tip-tip.ensures numbers pending before.0 (some_found _ _ c.is_none.ensures w.if-is_none.false),
            before.1,
            before.2,
          )
    ]

pub returns-clause-searched : goal.returns-clause-searched
returns-clause-searched c = tips_done c.args.fabric.now c.args.number c.args.switch c.loop-channel.numbers c.loop-channel.pending.items c.loop-channel.channel c.requires.fabric c.loop-channel.invariant.0 (omega (arith, c.leaves-first.ensures.past))
