use Rattle.std.proofs.Common.{List, length, ◌∙◌, ap}
use Rattle.fab_depgraph.specs.Edges.{Row, row_at, times_in}
use Rattle.fab_depgraph.specs.Listed.{Dependencies, times_listed}
use Rattle.fab_depgraph.proofs.Listing.Kept.{times_all}
use Rattle.fab_depgraph.proofs.arena.DepGraph.count.Goals as goal

pub returns : goal.returns
returns c =
    let inside = c.self.inside in
    let g : Dependencies = record { channels = length inside.order; listed = inside.trail.items; spare = inside.room; numbers = inside.order } in
    c.count.ensures
    ∙ (ap (λ (rows : List Row). times_in (row_at rows c.args.dep.first.0) c.args.dep.second.0) c.self.invariant.rows
    ∙ (times_all g c.self.invariant.dependencies c.args.dep
    ∙ ap (λ (g : Dependencies). times_listed g.listed c.args.dep) c.self.view_is))
