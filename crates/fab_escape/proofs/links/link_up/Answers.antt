use Rattle.std.proofs.Common.{◌∙◌, ◌+◌, ◌≤◌, ◌<◌, suc, sym, subst, arith}
use Rattle.std.proofs.lemmas.Bool.{true≢false}
use Rattle.fab_model.specs.Topology.{first_channel}
use Rattle.fab_hops.specs.HopCounts.{IsHopCount}
use Rattle.fab_hops.proofs.Kept.{count_told, count_kept}
use Rattle.fab_escape.proofs.ParentChannels.{one_more, eq_some, some_eq, tip_low, is_link, none_further, some_leads_up}
use Rattle.fab_escape.proofs.links.link_up.Goals as goal

pub hop-requires-in-loop-number-clause-from : goal.hop-requires-in-loop-number-clause-from
hop-requires-in-loop-number-clause-from c =
    let t = c.args.fabric.now in
    let s = c.args.s.0 in
    let root = c.args.root.0 in
    let nearer = c.in_ok-nearer.nearer in
    let far : IsHopCount t s root (suc nearer) = subst (λ n. IsHopCount t s root n) (one_more c.checked_sub.result c.in_ok-hop.field-0 nearer c.checked_sub.ensures c.in_ok-nearer.was)
    (count_told t c.args.hops.now c.requires.hops s root c.in_ok-hop.field-0 c.requires.from c.requires.root (sym c.hop.ensures ∙ c.in_ok-hop.was)) in
    let from = subst (λ n. n ≤ c.loop-number.number) c.leaves-first.ensures.first c.loop-number.auto.number in
    let past = subst (λ n. c.loop-number.number < n) c.leaves-first.ensures.past c.loop-number-test.true in
    omega (arith, c.requires.hops.switches, tip_low t c.requires.fabric.rows s root nearer far c.loop-number.number c.tip-parent.result from past c.tip-parent.ensures)

pub returns-then-eq : goal.returns-then-eq
returns-then-eq c =
    let t = c.args.fabric.now in
    let s = c.args.s.0 in
    let root = c.args.root.0 in
    let nearer = c.in_ok-nearer.nearer in
    let far : IsHopCount t s root (suc nearer) = subst (λ n. IsHopCount t s root n) (one_more c.checked_sub.result c.in_ok-hop.field-0 nearer c.checked_sub.ensures c.in_ok-nearer.was)
    (count_told t c.args.hops.now c.requires.hops s root c.in_ok-hop.field-0 c.requires.from c.requires.root (sym c.hop.ensures ∙ c.in_ok-hop.was)) in
    let from = subst (λ n. n ≤ c.loop-number.number) c.leaves-first.ensures.first c.loop-number.auto.number in
    let past = subst (λ n. c.loop-number.number < n) c.leaves-first.ensures.past c.loop-number-test.true in
    let low = tip_low t c.requires.fabric.rows s root nearer far c.loop-number.number c.tip-parent.result from past c.tip-parent.ensures in
    let some = eq_some c.hop-in-loop-number.result nearer (sym c.eq.ensures ∙ c.if-eq.true) in
    is_link t c.requires.fabric.rows s root nearer far c.loop-number.number c.tip-parent.result from past c.tip-parent.ensures c.reverse.result.0 c.reverse.ensures.reverse
    (count_told t c.args.hops.now c.requires.hops c.tip-parent.result.0 root nearer low c.requires.root (sym c.hop-in-loop-number.ensures ∙ some)) c.loop-number.invariant

pub loop-number-preserved : goal.loop-number-preserved
loop-number-preserved c =
    let t = c.args.fabric.now in
    let s = c.args.s.0 in
    let root = c.args.root.0 in
    let nearer = c.in_ok-nearer.nearer in
    let far : IsHopCount t s root (suc nearer) = subst (λ n. IsHopCount t s root n) (one_more c.checked_sub.result c.in_ok-hop.field-0 nearer c.checked_sub.ensures c.in_ok-nearer.was)
    (count_told t c.args.hops.now c.requires.hops s root c.in_ok-hop.field-0 c.requires.from c.requires.root (sym c.hop.ensures ∙ c.in_ok-hop.was)) in
    let from = subst (λ n. n ≤ c.loop-number.number) c.leaves-first.ensures.first c.loop-number.auto.number in
    let past = subst (λ n. c.loop-number.number < n) c.leaves-first.ensures.past c.loop-number-test.true in
    let low = tip_low t c.requires.fabric.rows s root nearer far c.loop-number.number c.tip-parent.result from past c.tip-parent.ensures in
    none_further t c.requires.fabric.rows s root nearer far c.loop-number.number c.tip-parent.result from past c.tip-parent.ensures c.loop-number.invariant
    (λ near.
    let kept = count_kept t c.args.hops.now c.requires.hops c.tip-parent.result.0 root nearer low c.requires.root near in
    true≢false (sym (some_eq c.hop-in-loop-number.result nearer (c.hop-in-loop-number.ensures ∙ kept)) ∙ sym c.eq.ensures ∙ c.if-eq.false))

pub returns : goal.returns
returns c =
    let t = c.args.fabric.now in
    let s = c.args.s.0 in
    let root = c.args.root.0 in
    let nearer = c.in_ok-nearer.nearer in
    let far : IsHopCount t s root (suc nearer) = subst (λ n. IsHopCount t s root n) (one_more c.checked_sub.result c.in_ok-hop.field-0 nearer c.checked_sub.ensures c.in_ok-nearer.was)
    (count_told t c.args.hops.now c.requires.hops s root c.in_ok-hop.field-0 c.requires.from c.requires.root (sym c.hop.ensures ∙ c.in_ok-hop.was)) in
    let ended : first_channel t (s + 1) ≤ c.loop-number.number = omega (arith, c.leaves-first.ensures.past) in
    absurd (some_leads_up t c.requires.fabric.rows s root nearer far (λ d from less. c.loop-number.invariant d from (omega (arith, less, ended))))
