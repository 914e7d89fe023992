use Rattle.std.proofs.Common.{◌≡◌, ◌<◌, ◌∙◌, length, sym, arith}
use Rattle.std.specs.Prelude.{slice_index_or}
use Rattle.std.proofs.lemmas.List.{get_or_default}
use Rattle.fab_hops.specs.HopCodes.{code_at}
use Rattle.fab_hops.proofs.Queue.{tip_within, looks_new, looks_old, looked, one_more}
use Rattle.fab_hops.proofs.hop_search.reach_tips.Goals as goal
use Rattle.fab_hops.proofs.hop_search.reach_tips.Goals.{then-row-tip+in_ok-push_back, else-row-tip}

pub bounds-row-tip : goal.bounds-row-tip
bounds-row-tip c = omega (
  arith,
  c.requires.whole,
  tip_within c.args.fabric.now c.requires.fabric.rows c.args.switch c.loop-channel.channel c.tip-tip.result (omega arith) (omega arith) c.tip-tip.ensures,
)

pub loop-channel-preserved : goal.loop-channel-preserved
loop-channel-preserved c =
    let t = c.args.fabric.now in
    let good = c.requires.fabric.rows in
    let s = c.args.switch in
    let channel = c.loop-channel.channel in
    let tip = c.tip-tip.result in
    let row = c.loop-channel.row in
    let queue = c.loop-channel.queue.items in
    let before = c.loop-channel.invariant in
    let low : tip.0 < length row = omega (arith, c.requires.whole, tip_within t good s channel tip (omega arith) (omega arith) c.tip-tip.ensures) in
    let same : code_at row tip.0 ≡ slice_index_or row tip.0 0 = get_or_default row tip.0 65535 0 low in
    elim c.if-row-tip.branch [
      | then-row-tip+in_ok-push_back w ↦
          (let none : code_at row tip.0 ≡ 65535 = same ∙ w.if-row-tip.true in
          rw (w.row-is, w.queue-is, w.in_ok-push_back.ensures.items) (record {
            looking = λ from l. looks_new t good s channel tip (omega arith) (omega arith) c.tip-tip.ensures from row queue c.args.hops low c.requires.small none (before.looking from l);
            fewer = one_more row queue tip c.args.hops low c.requires.small none ∙ before.fewer;
          }))
      | else-row-tip w ↦
          rw (w.row-is, w.queue-is) (record {
            looking = λ from l. looks_old t good s channel tip (omega arith) (omega arith) c.tip-tip.ensures from row queue c.args.hops (λ e. w.if-row-tip.false (sym same ∙ e)) (before.looking from l);
            fewer = before.fewer;
          })
    ]

pub returns-clause-looked : goal.returns-clause-looked
returns-clause-looked c = λ from l. looked c.args.fabric.now c.requires.fabric.rows from c.loop-channel.row c.loop-channel.queue.items c.args.switch c.args.hops c.loop-channel.channel (omega arith) (c.loop-channel.invariant.looking from l)
