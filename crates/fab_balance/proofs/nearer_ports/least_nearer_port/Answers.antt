use Rattle.std.proofs.Common.{◌≡◌, sym, subst, arith, ◌∙◌, true}
use Rattle.std.proofs.lemmas.Bool.{true≢false}
use Rattle.fab_hops.specs.HopCounts.{IsHopCount}
use Rattle.fab_balance.specs.Eligible.{LeadsNearer}
use Rattle.fab_balance.proofs.NearerPorts.{HasNoNearerBelow, counted, none_nearer, none_below, none_at_all, none_more, least_found, channel_leads_nearer, has_fewer, tip_within}
use Rattle.fab_balance.proofs.nearer_ports.least_nearer_port.Goals as goal

pub returns-in_err-here : goal.returns-in_err-here
returns-in_err-here c = rw c.from_residual.ensures (none_nearer c.args.fabric.now c.args.hops.now c.requires.hops c.args.s.0 c.args.to.0 c.requires.from c.requires.to (sym c.hop.ensures ∙ c.in_err-here.was))

pub loop-number-init : goal.loop-number-init
loop-number-init c = subst (λ n. HasNoNearerBelow c.args.fabric.now c.args.s.0 c.args.to.0 n) (sym c.leaves-first.ensures.first) (none_below c.args.fabric.now c.requires.fabric.rows c.args.s.0 c.args.to.0)

pub channel-channel-requires : goal.channel-channel-requires
channel-channel-requires c = omega (arith, c.leaves-first.ensures.within)

pub is_nearer-requires : goal.is_nearer-requires
is_nearer-requires c = record {
  from = omega (
    arith,
    c.requires.hops.switches,
    tip_within c.args.fabric.now c.requires.fabric.rows c.args.s.0 c.args.to.0 c.loop-number.number c.channel-channel.result c.channel-channel.ensures
        (omega (arith, c.leaves-first.ensures.first)) (omega (arith, c.leaves-first.ensures.past)),
  );
  to = omega (arith, c.requires.hops.switches);
}

pub returns-then-is_nearer : goal.returns-then-is_nearer
returns-then-is_nearer c =
    let t = c.args.fabric.now in
    let s = c.args.s.0 in
    let to = c.args.to.0 in
    let row = c.channel-channel.result in
    let count : IsHopCount t s to c.in_ok-here.here = counted t c.args.hops.now c.requires.hops s to c.requires.from c.requires.to c.in_ok-here.here (sym c.hop.ensures ∙ c.in_ok-here.was) in
    let nearer : LeadsNearer t s to row.port = channel_leads_nearer t c.requires.fabric.rows s to c.loop-number.number row c.channel-channel.ensures (omega (arith, c.leaves-first.ensures.first)) (omega (arith, c.leaves-first.ensures.past))
    c.args.hops.now c.requires.hops c.requires.to c.in_ok-here.here count (c.is_nearer.ensures.0 c.if-is_nearer.true) in
    least_found t c.requires.fabric.rows s to c.loop-number.number row c.channel-channel.ensures (omega (arith, c.leaves-first.ensures.first)) (omega (arith, c.leaves-first.ensures.past)) c.loop-number.invariant nearer

pub loop-number-preserved : goal.loop-number-preserved
loop-number-preserved c =
    let t = c.args.fabric.now in
    let s = c.args.s.0 in
    let to = c.args.to.0 in
    let row = c.channel-channel.result in
    let count : IsHopCount t s to c.in_ok-here.here = counted t c.args.hops.now c.requires.hops s to c.requires.from c.requires.to c.in_ok-here.here (sym c.hop.ensures ∙ c.in_ok-here.was) in
    let other : ¬ LeadsNearer t s to row.port = λ (x : LeadsNearer t s to row.port).
    let is : c.is_nearer.result ≡ true = c.is_nearer.ensures.1 (has_fewer t c.requires.fabric.rows s to c.loop-number.number row c.channel-channel.ensures (omega (arith, c.leaves-first.ensures.first)) (omega (arith, c.leaves-first.ensures.past))
    c.args.hops.now c.requires.hops c.requires.to c.in_ok-here.here count x) in true≢false (sym is ∙ c.if-is_nearer.false) in
    none_more t c.requires.fabric.rows s to c.loop-number.number row c.channel-channel.ensures (omega (arith, c.leaves-first.ensures.first)) (omega (arith, c.leaves-first.ensures.past)) c.loop-number.invariant other

pub returns : goal.returns
returns c = none_at_all c.args.fabric.now c.requires.fabric.rows c.args.s.0 c.args.to.0 c.loop-number.number c.loop-number.invariant (omega (arith, c.leaves-first.ensures.past))
