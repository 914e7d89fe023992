use Rattle.std.proofs.Common.{◌≡◌, ◌<◌, ◌∙◌, suc, length, sym, subst, arith, Contains}
use Rattle.std.proofs.lemmas.Bool.{eqb-true, eqb-false}
use Rattle.fab_dfsssp.specs.PathsOver.{AreLayer}
use Rattle.fab_dfsssp.proofs.PathsOver.{ArePathsBefore, none_before, layer_joins, layers_end, fewer_left}
use Rattle.fab_dfsssp.proofs.paths_over.paths_over.Goals as goal

pub loop-alloc-init : goal.loop-alloc-init
loop-alloc-init c = (
  0,
  subst (λ ps. ArePathsBefore c.args.fabric.now c.args.tables.now c.args.edge 0 ps) (sym c.new-paths.ensures.items) (none_before c.args.fabric.now c.args.tables.now c.requires.fabric.rows c.requires.tables c.args.edge),
  c.in_ok-layer.ensures,
)

pub paths_behind-requires-clause-layer : goal.paths_behind-requires-clause-layer
paths_behind-requires-clause-layer c = λ p has. (c.loop-alloc.invariant.2.sound p (subst (λ ps. Contains ps p) c.deref.ensures.value has)).0

pub loop-alloc-smaller : goal.loop-alloc-smaller
loop-alloc-smaller c =
    let i = c.loop-alloc.invariant in
    let next : AreLayer c.args.fabric.now c.args.tables.now c.args.edge (suc i.0) c.in_ok-behind.behind.items =
    c.in_ok-behind.ensures c.args.edge i.0 (subst (λ ps. AreLayer c.args.fabric.now c.args.tables.now c.args.edge i.0 ps) (sym c.deref.ensures.value) i.2) in
    let some : 0 < length c.loop-alloc.layer.items = omega (arith, eqb-false c.loop-alloc.layer.len 0 (sym c.is_empty.ensures ∙ c.loop-alloc-test.true), c.loop-alloc.layer.ok.0) in
    fewer_left c.args.fabric.now c.args.tables.now c.requires.fabric.rows c.requires.tables c.args.edge i.0 c.loop-alloc.layer.items c.in_ok-behind.behind.items some i.2 next

pub loop-alloc-preserved : goal.loop-alloc-preserved
loop-alloc-preserved c =
    let i = c.loop-alloc.invariant in
    let next : AreLayer c.args.fabric.now c.args.tables.now c.args.edge (suc i.0) c.in_ok-behind.behind.items =
    c.in_ok-behind.ensures c.args.edge i.0 (subst (λ ps. AreLayer c.args.fabric.now c.args.tables.now c.args.edge i.0 ps) (sym c.deref.ensures.value) i.2) in (
      suc i.0,
      subst (λ ps. ArePathsBefore c.args.fabric.now c.args.tables.now c.args.edge (suc i.0) ps) (sym c.in_ok-append.ensures.items)
          (layer_joins c.args.fabric.now c.args.tables.now c.requires.fabric.rows c.requires.tables c.args.edge i.0 c.loop-alloc.paths.items c.loop-alloc.layer.items i.1 i.2),
      next,
    )

pub returns : goal.returns
returns c =
    let i = c.loop-alloc.invariant in
    let none : length c.loop-alloc.layer.items ≡ 0 = omega (arith, eqb-true c.loop-alloc.layer.len 0 (sym c.is_empty.ensures ∙ c.loop-alloc-test.false), c.loop-alloc.layer.ok.0) in
    layers_end c.args.fabric.now c.args.tables.now c.requires.fabric.rows c.requires.tables c.args.edge i.0 c.loop-alloc.paths.items c.loop-alloc.layer.items none i.1 i.2
