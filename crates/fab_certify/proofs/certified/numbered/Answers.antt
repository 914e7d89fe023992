use Rattle.std.proofs.Common.{◌≡◌, ◌*◌, ◌∙◌, refl, subst, length}
use Rattle.fab_rings.specs.EdgeList.{AreNodeLevels}
use Rattle.fab_rings.specs.Numbering.{IsNumbering}
use Rattle.fab_certify.specs.Numbers.{HasNumbers}
use Rattle.fab_certify.proofs.Numbered.NumberedPlan.{dependency_ring, is_numbered}
use Rattle.fab_certify.proofs.certified.numbered.Goals as goal

pub returns-in-Ring : goal.returns-in-Ring
returns-in-Ring c = (
  c.requires.sound,
  dependency_ring c.args.fabric.now c.args.tables c.args.lanes c.in_ok-dependencies.dependencies c.graph.result.now.edges c.in-Ring.ring c.in_ok-dependencies.ensures c.graph.ensures.edges
      (subst (IsNumbering c.graph.result.now) c.in-Ring.is c.in_ok-levels.ensures),
)

pub returns-in-Levels : goal.returns-in-Levels
returns-in-Levels c =
    let t = c.args.fabric.now in
    let l = c.args.lanes in
    let g = c.graph.result.now in
    let dependencies = c.in_ok-dependencies.dependencies in
    let levels = c.in-Levels.levels.items in
    let nodes : g.nodes ≡ length t.channels * l.count = c.graph.ensures.nodes ∙ c.in_ok-dependencies.ensures.from_routes.each in
    let graph : g ≡ record { nodes = length t.channels * l.count; edges = dependencies.pairs } = rw (nodes, c.graph.ensures.edges) refl in
    let found : AreNodeLevels g levels = subst (IsNumbering g) c.in-Levels.is c.in_ok-levels.ensures in (
      c.requires.sound,
      record {
        tables = refl;
        lanes = c.set_numbers.new.lanes;
        has_lanes = refl;
        numbered = is_numbered t c.args.tables l c.set_numbers.new.lanes dependencies levels c.requires.lanes c.requires.sound c.in_ok-dependencies.ensures
            (subst (λ g. AreNodeLevels g levels) graph found) (subst (λ ns. HasNumbers dependencies ns l c.set_numbers.new.lanes) c.deref.ensures.value c.set_numbers.ensures);
      },
    )
