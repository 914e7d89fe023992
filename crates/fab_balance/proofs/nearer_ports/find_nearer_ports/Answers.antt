use Rattle.std.proofs.Common.{◌<◌, ◌≤◌, ℕ, List, sym, subst, arith, ◌∙◌}
use Rattle.std.proofs.lemmas.Bool.{true≢false}
use Rattle.fab_hops.specs.HopCounts.{IsHopCount}
use Rattle.fab_balance.specs.Eligible.{AreNearerPorts}
use Rattle.fab_balance.proofs.NearerPorts.{counted, none_nearer, none_listed, no_ports, all_listed, one_listed, passed_over, channel_leads_nearer, has_fewer, tip_within}
use Rattle.fab_balance.proofs.nearer_ports.find_nearer_ports.Goals as goal
use Rattle.fab_balance.proofs.nearer_ports.find_nearer_ports.Goals.{then-is_nearer+in_ok-push, else-is_nearer}

pub returns-in_default : goal.returns-in_default
returns-in_default c =
    let P : List ℕ → Type 0 = λ ports. AreNearerPorts c.args.fabric.now c.args.s.0 c.args.to.0 ports in
    subst P (sym c.clear.ensures.items) (no_ports c.args.fabric.now c.args.s.0 c.args.to.0
    (none_nearer c.args.fabric.now c.args.hops.now c.requires.hops c.args.s.0 c.args.to.0 c.requires.from c.requires.to (sym c.hop.ensures ∙ c.in_default.is)))

pub loop-number-init : goal.loop-number-init
loop-number-init c = rw (c.leaves-first.ensures.first, c.clear.ensures.items) (none_listed c.args.fabric.now c.requires.fabric.rows c.args.s.0 c.args.to.0)

pub channel-channel-requires : goal.channel-channel-requires
channel-channel-requires c = omega (arith, c.leaves-first.ensures.within)

pub is_nearer-requires : goal.is_nearer-requires
is_nearer-requires c = record {
  from = omega (
    arith,
    c.requires.hops.switches,
    tip_within c.args.fabric.now c.requires.fabric.rows c.args.s.0 c.args.to.0 c.loop-number.number c.channel-channel.result c.channel-channel.ensures
        (omega (arith, c.leaves-first.ensures.first)) (omega (arith, c.leaves-first.ensures.past)),
  );
  to = omega (arith, c.requires.hops.switches);
}

pub loop-number-preserved : goal.loop-number-preserved
loop-number-preserved c =
    let t = c.args.fabric.now in
    let s = c.args.s.0 in
    let to = c.args.to.0 in
    let row = c.channel-channel.result in
    let number = c.loop-number.number in
    let from = subst (λ n. n ≤ number) c.leaves-first.ensures.first c.loop-number.auto.number in
    let past = subst (λ n. number < n) c.leaves-first.ensures.past c.loop-number-test.true in
    let count : IsHopCount t s to c.in-Some.here = counted t c.args.hops.now c.requires.hops s to c.requires.from c.requires.to c.in-Some.here (sym c.hop.ensures ∙ c.in-Some.is) in
    elim c.if-is_nearer.branch [
      | then-is_nearer+in_ok-push w ↦
          rw (w.ports-is, w.in_ok-push.ensures.items)
          (one_listed t c.requires.fabric.rows s to number row c.channel-channel.ensures from past c.loop-number.ports.items c.loop-number.invariant
          (channel_leads_nearer t c.requires.fabric.rows s to number row c.channel-channel.ensures from past c.args.hops.now c.requires.hops c.requires.to c.in-Some.here count (c.is_nearer.ensures.0 w.if-is_nearer.true)))
      | else-is_nearer w ↦
          rw w.ports-is
          (passed_over t c.requires.fabric.rows s to number row c.channel-channel.ensures from past c.loop-number.ports.items c.loop-number.invariant
          (λ x. true≢false (sym (c.is_nearer.ensures.1 (has_fewer t c.requires.fabric.rows s to number row c.channel-channel.ensures from past c.args.hops.now c.requires.hops c.requires.to c.in-Some.here count x)) ∙ w.if-is_nearer.false)))
    ]

pub returns : goal.returns
returns c = all_listed c.args.fabric.now c.requires.fabric.rows c.args.s.0 c.args.to.0 c.loop-number.number c.loop-number.ports.items c.loop-number.invariant (omega (arith, c.leaves-first.ensures.past))
