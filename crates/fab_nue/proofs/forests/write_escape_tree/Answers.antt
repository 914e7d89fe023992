use Rattle.std.proofs.Common.{◌≡◌, ◌∙◌, ◌<◌, ℕ, List, Option, length, length-set, sym, ap, arith}
use Rattle.fab_tables.specs.Trees.{next}
use Rattle.fab_nue.proofs.Lanes.Forests.{next_leaves, given_back, one_written, all_written}
use Rattle.fab_nue.proofs.forests.write_escape_tree.Goals as goal

pub set-requires-clause-leaves : goal.set-requires-clause-leaves
set-requires-clause-leaves c =
    next_leaves c.args.fabric.now c.args.lane c.args.forest.now c.args.to.0 c.loop-s.s c.requires.fabric.rows c.requires.forest c.requires.to (omega (arith, c.loop-s-test.true, c.switches-s-end.ensures.count)) c.next.result c.next.ensures

pub loop-s-preserved : goal.loop-s-preserved
loop-s-preserved c =
    let whole = c.loop-s.invariant.whole in
    let n = c.loop-s.s in
    record {
      whole = ap length c.set.ensures ∙ length-set c.loop-s.tree n _ ∙ whole;
      written = λ i h. ap (λ (x : List (Option ℕ)). next x i) c.set.ensures
          ∙ one_written c.loop-s.tree c.args.forest.now c.args.to.0 n _ (omega (arith, whole, c.loop-s-test.true, c.switches-s-end.ensures.count))
          (given_back c.args.forest.now n c.args.to.0 c.next.result c.next.ensures) c.loop-s.invariant.written i h;
    }

pub returns : goal.returns
returns c =
    all_written c.args.fabric.now c.args.lane c.args.forest.now c.args.to.0 c.loop-s.tree c.requires.forest c.loop-s.invariant.whole
    (λ i h. c.loop-s.invariant.written i (omega (arith, h, c.loop-s-test.false, c.switches-s-end.ensures.count)))
