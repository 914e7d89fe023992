use Rattle.std.proofs.Common.{◌∙◌, ℕ, None, List, Option, length, length-set, ap, arith}
use Rattle.fab_tables.specs.Trees.{next}
use Rattle.fab_nue.proofs.Searching.Emptying.{none_more, none_left}
use Rattle.fab_nue.proofs.settled.unsettle_all.Goals as goal

pub loop-s-preserved : goal.loop-s-preserved
loop-s-preserved c =
    let whole = c.loop-s.invariant.whole in
    let n = c.loop-s.s in
    record {
      whole = ap length c.set.ensures ∙ length-set c.loop-s.tree n None ∙ whole;
      none = λ i h. ap (λ (x : List (Option ℕ)). next x i) c.set.ensures
          ∙ none_more c.loop-s.tree n (omega (arith, whole, c.loop-s-test.true, c.switches-s-end.ensures.count)) c.loop-s.invariant.none i h;
    }

pub returns-clause-empty : goal.returns-clause-empty
returns-clause-empty c =
    none_left c.args.fabric.now c.loop-s.tree c.loop-s.invariant.whole
    (λ i h. c.loop-s.invariant.none i (omega (arith, h, c.loop-s-test.false, c.switches-s-end.ensures.count)))
