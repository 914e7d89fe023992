use Rattle.std.proofs.Common.{◌≡◌, ℕ, ◌≤◌, ◌*◌, ◌∙◌, ap, refl, subst, length}
use Rattle.fab_model.specs.Topology.{Topology, lids_of}
use Rattle.fab_tables.specs.LaneTables.{LaneTables, no_lanes}
use Rattle.fab_rings.specs.EdgeList.{AreNodeLevels}
use Rattle.fab_rings.specs.Numbering.{IsNumbering}
use Rattle.fab_certify.specs.Numbers.{HasNumbers}
use Rattle.fab_replies.specs.Answers.{bare_lanes}
use Rattle.fab_replies.proofs.JointNumbers.{joint_ring, is_jointly_numbered}
use Rattle.fab_replies.proofs.certifying.numbered.Goals as goal

-- lanes without levels and numbers
bare_there : (t r : Topology) (count some : ℕ) (l : LaneTables) → r ≡ t → count ≡ some → l ≡ no_lanes count (length r.switches) (length r.channels) (lids_of r) → l ≡ bare_lanes t some
bare_there t r count some l fabric lanes is =
    is ∙ ap (λ n. no_lanes n (length r.switches) (length r.channels) (lids_of r)) lanes ∙ ap (λ (x : Topology). no_lanes some (length x.switches) (length x.channels) (lids_of x)) fabric

pub returns-in-Ring : goal.returns-in-Ring
returns-in-Ring c = (
  c.requires.sound,
  c.requires.good,
  joint_ring c.args.reading.now.fabric c.args.reading.now.entries c.args.reading.now.lanes c.args.dependencies.now c.graph.result.now.edges c.in-Ring.ring c.requires.are c.graph.ensures.edges
      (subst (IsNumbering c.graph.result.now) c.in-Ring.is c.in_ok-levels.ensures),
)

pub returns-in_ok-lanes-in-Levels : goal.returns-in_ok-lanes-in-Levels
returns-in_ok-lanes-in-Levels c =
    let t = c.args.reading.now.fabric in
    let l = c.args.reading.now.lanes in
    let d = c.args.dependencies.now in
    let graph = c.graph.result.now in
    let levels = c.in-Levels.levels.items in
    let lanes = c.in_ok-lanes-in-Levels.lanes in
    let new = c.set_numbers.new.lanes in
    let nodes : graph.nodes ≡ length t.channels * l.count = c.graph.ensures.nodes ∙ c.requires.are.from_both.each in
    let is : graph ≡ record { nodes = length t.channels * l.count; edges = d.pairs } = rw (nodes, c.graph.ensures.edges) refl in
    let found : AreNodeLevels graph levels = subst (IsNumbering graph) c.in-Levels.is c.in_ok-levels.ensures in
    let set : HasNumbers d levels lanes new = subst (λ ns. HasNumbers d ns lanes new) c.deref.ensures.value c.set_numbers.ensures in
    let bare : lanes ≡ bare_lanes t l.count = bare_there t c.fabric.result.now c.count.result l.count lanes c.fabric.ensures.fabric c.count.ensures.count c.in_ok-lanes-in-Levels.ensures in (
      c.requires.sound,
      c.requires.good,
      is_jointly_numbered t c.args.reading.now.entries l (subst (λ n. n ≤ 15) c.count.ensures.count c.count.ensures.few) c.requires.sound c.requires.good new d levels c.requires.are (subst (λ x. AreNodeLevels x levels) is found)
          (subst (λ k. HasNumbers d levels k new) bare set),
    )
