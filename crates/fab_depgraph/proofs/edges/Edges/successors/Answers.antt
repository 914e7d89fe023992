use Rattle.std.proofs.Common.{ap}
use Rattle.fab_depgraph.specs.Edges.{EdgeRows}
use Rattle.fab_depgraph.proofs.Linking.Calls.{can_find}
use Rattle.fab_depgraph.proofs.edges.Edges.successors.Goals as goal

pub invariant_of-result : goal.invariant_of-result
invariant_of-result c = can_find c.self.inside.edges c.self.inside.newest.items c.self.invariant.0 c.self.invariant.1 c.args.self.now.rows (ap (λ (v : EdgeRows). v.rows) c.self.view_is) c.args.first.0 0 c.requires c.index.result.now c.index.ensures
