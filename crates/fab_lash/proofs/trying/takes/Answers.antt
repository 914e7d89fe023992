use Rattle.std.proofs.Common.{◌∙◌, length, take, ap, arith}
use Rattle.fab_depgraph.specs.declared.dep.Dep.{Dep}
use Rattle.fab_depgraph.specs.Listed.{Dependencies}
use Rattle.fab_lash.proofs.Adding.{no_shorter}
use Rattle.fab_lash.proofs.Tries.{listed_next, taken_back}
use Rattle.fab_lash.proofs.trying.takes.Goals as goal

pub undo_to-requires : goal.undo_to-requires
undo_to-requires g c =
    omega (
      arith,
      c.mark-mark.ensures.length,
      ap (λ (graph : Dependencies). length graph.listed) (c.add_once.ensures.stays c.if-not-add_once.true),
      ap (length {A = Dep}) c.loop-dependency.invariant.listed,
      no_shorter (take c.loop-dependency.dependency-index c.args.dependencies.now) c.args.graph.now.listed,
    )

pub returns-then-not-add_once-clause-refused : goal.returns-then-not-add_once-clause-refused
returns-then-not-add_once-clause-refused g c = λ refused.
    taken_back c.args.graph.now.listed c.loop-dependency.graph.listed c.add_once.new.graph.listed c.undo_to.new.self.listed c.args.dependencies.now c.loop-dependency.dependency-index c.mark-mark.result.0
    (omega (arith, c.loop-dependency-test.true, c.loop-dependency.auto.dependency-index-end)) c.loop-dependency.invariant.listed c.mark-mark.ensures.length (ap (λ (graph : Dependencies). graph.listed) (c.add_once.ensures.stays c.if-not-add_once.true))
    c.undo_to.ensures.listed (c.add_once.ensures.closes c.if-not-add_once.true)

pub loop-dependency-preserved : goal.loop-dependency-preserved
loop-dependency-preserved g c =
    let was = c.loop-dependency.invariant in
    let told = c.add_once.ensures in
    record {
      listed = listed_next c.args.graph.now.listed c.loop-dependency.graph.listed c.add_once.new.graph.listed c.args.dependencies.now c.loop-dependency.dependency-index
          (omega (arith, c.loop-dependency-test.true, c.loop-dependency.auto.dependency-index-end)) was.listed (told.listed c.if-not-add_once.false);
      channels = told.channels ∙ was.channels;
      spare = omega (arith, was.spare, told.spare);
      acyclic = told.acyclic c.if-not-add_once.false;
    }
