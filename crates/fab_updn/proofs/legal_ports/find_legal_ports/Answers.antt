use Rattle.std.proofs.Common.{◌<◌, ◌≤◌, sym, subst, arith, ◌∙◌}
use Rattle.std.proofs.lemmas.Bool.{true≢false}
use Rattle.fab_model.specs.declared.rows.ChannelRow.{ChannelRow}
use Rattle.fab_updn.specs.Found.{IsLegalRow}
use Rattle.fab_updn.proofs.Listing.{none_listed, all_listed, leaves_here, tip_within, one_listed, passed_over}
use Rattle.fab_updn.proofs.legal_ports.find_legal_ports.Goals as goal
use Rattle.fab_updn.proofs.legal_ports.find_legal_ports.Goals.{then-is_legal+in_ok-push, else-is_legal}

pub loop-number-init : goal.loop-number-init
loop-number-init c = rw (c.leaves-first.ensures.first, c.clear.ensures.items) (none_listed c.args.fabric.now c.requires.fabric.rows (λ (row : ChannelRow). IsLegalRow c.args.ranks.now c.args.costs.now row) c.args.s.0)

pub is_legal-requires : goal.is_legal-requires
is_legal-requires c =
    let from = subst (λ n. n ≤ c.loop-number.number) c.leaves-first.ensures.first c.loop-number.auto.number in
    let past = subst (λ n. c.loop-number.number < n) c.leaves-first.ensures.past c.loop-number-test.true in
    record {
      tail = omega (arith, c.requires.ranks, c.requires.switch, leaves_here c.args.fabric.now c.requires.fabric.rows (λ (row : ChannelRow). IsLegalRow c.args.ranks.now c.args.costs.now row) c.args.s.0 c.loop-number.number c.channel-channel.result c.channel-channel.ensures from past);
      tip = omega (arith, c.requires.ranks, tip_within c.args.fabric.now c.requires.fabric.rows (λ (row : ChannelRow). IsLegalRow c.args.ranks.now c.args.costs.now row) c.args.s.0 c.loop-number.number c.channel-channel.result c.channel-channel.ensures from past);
      costs = c.requires.costs ∙ sym c.requires.ranks;
    }

pub loop-number-preserved : goal.loop-number-preserved
loop-number-preserved c =
    let t = c.args.fabric.now in
    let good = c.requires.fabric.rows in
    let s = c.args.s.0 in
    let row = c.channel-channel.result in
    let number = c.loop-number.number in
    let from = subst (λ n. n ≤ number) c.leaves-first.ensures.first c.loop-number.auto.number in
    let past = subst (λ n. number < n) c.leaves-first.ensures.past c.loop-number-test.true in
    elim c.if-is_legal.branch [
      | then-is_legal+in_ok-push w ↦
          rw (w.ports-is, w.in_ok-push.ensures.items)
          (one_listed t good (λ (r : ChannelRow). IsLegalRow c.args.ranks.now c.args.costs.now r) s number row c.channel-channel.ensures from past c.loop-number.ports.items c.loop-number.invariant (c.is_legal.ensures.0 w.if-is_legal.true))
      | else-is_legal w ↦
          rw w.ports-is
          (passed_over t good (λ (r : ChannelRow). IsLegalRow c.args.ranks.now c.args.costs.now r) s number row c.channel-channel.ensures from past c.loop-number.ports.items c.loop-number.invariant (λ x. true≢false (sym (c.is_legal.ensures.1 x) ∙ w.if-is_legal.false)))
    ]

pub returns : goal.returns
returns c = all_listed c.args.fabric.now c.requires.fabric.rows (λ (row : ChannelRow). IsLegalRow c.args.ranks.now c.args.costs.now row) c.args.s.0 c.loop-number.number c.loop-number.ports.items c.loop-number.invariant (omega (arith, c.leaves-first.ensures.past))
