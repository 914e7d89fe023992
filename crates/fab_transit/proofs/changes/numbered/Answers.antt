use Rattle.std.proofs.Common.{◌≡◌, ◌*◌, ◌∙◌, refl, subst, length}
use Rattle.fab_rings.specs.EdgeList.{AreNodeLevels}
use Rattle.fab_rings.specs.Numbering.{IsNumbering}
use Rattle.fab_certify.specs.Numbers.{HasNumbers}
use Rattle.fab_transit.specs.MixedWalks.{bound}
use Rattle.fab_transit.specs.Answers.{bare_lanes}
use Rattle.fab_transit.proofs.Bounds.{lanes_few}
use Rattle.fab_transit.proofs.Numbering.{mixed_ring, is_numbered, bare_there}
use Rattle.fab_transit.proofs.changes.numbered.Goals as goal

pub returns-in-Ring : goal.returns-in-Ring
returns-in-Ring c = (
  c.requires.none,
  mixed_ring c.args.plans.now.fabric c.args.plans.now.change c.args.dependencies.now c.graph.result.now.edges c.in-Ring.ring c.requires.are c.graph.ensures.edges
      (subst (IsNumbering c.graph.result.now) c.in-Ring.is c.in_ok-levels.ensures),
)

pub returns-in_ok-lanes-in-Levels : goal.returns-in_ok-lanes-in-Levels
returns-in_ok-lanes-in-Levels c =
    let g = c.args.plans.now in
    let d = c.args.dependencies.now in
    let graph = c.graph.result.now in
    let levels = c.in-Levels.levels.items in
    let lanes = c.in_ok-lanes-in-Levels.lanes in
    let new = c.set_numbers.new.lanes in
    let nodes : graph.nodes ≡ length g.fabric.channels * bound g.change = c.graph.ensures.nodes ∙ c.requires.are.each in
    let is : graph ≡ record { nodes = length g.fabric.channels * bound g.change; edges = d.pairs } = rw (nodes, c.graph.ensures.edges) refl in
    let found : AreNodeLevels graph levels = subst (IsNumbering graph) c.in-Levels.is c.in_ok-levels.ensures in
    let bare : lanes ≡ bare_lanes g.fabric g.change = bare_there g c.fabric.result.now c.bound.result lanes c.fabric.ensures.fabric c.bound.ensures.bound c.in_ok-lanes-in-Levels.ensures in
    let set : HasNumbers d levels lanes new = subst (λ ns. HasNumbers d ns lanes new) c.deref.ensures.value c.set_numbers.ensures in (
      c.requires.none,
      is_numbered g.fabric g.change (lanes_few g c.fabric.ensures.kept) new d levels c.requires.are (subst (λ x. AreNodeLevels x levels) is found) (subst (λ l. HasNumbers d levels l new) bare set),
    )
