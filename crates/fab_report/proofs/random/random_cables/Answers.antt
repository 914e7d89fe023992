use Rattle.std.proofs.Common.{◌+◌, ◌-◌, ℕ, sym, ap, ◌∙◌}
use Rattle.rand_pcg.specs.Lcg.{Lcg}
use Rattle.rand_pcg.specs.Pcg.{pcg32}
use Rattle.fab_report.specs.Cabling.{joined, crossed}
use Rattle.fab_report.specs.Laying.{LaidCables}
use Rattle.fab_report.proofs.Cabling.Drawing.{joined_from, crossed_from, joined_step, crossed_step, crossed_all}
use Rattle.fab_report.proofs.random.random_cables.Goals as goal

pub loop-s-preserved : goal.loop-s-preserved
loop-s-preserved c =
    let a = c.args.switches in
    let b = c.args.more in
    let s = c.loop-s.s in
    let cables = c.loop-s.laid.cables in
    record {
      count = ap (λ (l : LaidCables). l.switches) c.in_ok-join.ensures ∙ c.loop-s.invariant.count;
      drawn =
          ap (λ (l : LaidCables). joined_from a b (s + 1) l.cables c.next_word.new.self) c.in_ok-join.ensures
          ∙ ap (λ (x : ℕ × Lcg). joined_from a b (s + 1) (joined cables (s, x.0)) x.1) c.next_word.ensures
          ∙ sym (joined_step a b s cables c.loop-s.words c.loop-s-test.true) ∙ c.loop-s.invariant.drawn;
    }

pub loop-preserved : goal.loop-preserved
loop-preserved c =
    let a = c.args.switches in
    let left = c.args.more - (c.loop.counter + 1) in
    let cables = c.loop.laid.cables in
    record {
      count = ap (λ (l : LaidCables). l.switches) c.in_ok-cross.ensures ∙ c.loop.invariant.count;
      drawn =
          ap (λ (l : LaidCables). crossed_from a left l.cables c.next_word-second.new.self) c.in_ok-cross.ensures
          ∙ ap (λ (x : ℕ × Lcg). crossed_from a left (crossed a cables (c.next_word-first.result, x.0)) x.1) c.next_word-second.ensures
          ∙ ap (λ (x : ℕ × Lcg). crossed_from a left (crossed a cables (x.0, (pcg32 x.1).0)) (pcg32 x.1).1) c.next_word-first.ensures
          ∙ sym (crossed_step a c.args.more c.loop.counter cables c.loop.words c.loop-test.true) ∙ c.loop.invariant.drawn;
    }

pub returns : goal.returns
returns c =
    ap (λ (l : LaidCables). l.cables) c.laid-2.view_is
    ∙ sym (crossed_all c.args.switches c.args.more c.loop.counter c.loop.laid.cables c.loop.words c.loop-test.false) ∙ c.loop.invariant.drawn
