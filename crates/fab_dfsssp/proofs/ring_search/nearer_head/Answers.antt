use Rattle.fab_dfsssp.proofs.Around.{heads_low}
use Rattle.fab_dfsssp.proofs.ring_search.nearer_head.Goals as goal

pub least_at-requires : goal.least_at-requires
least_at-requires c = rw (c.heads.ensures, c.requires.each) (heads_low c.args.edges.now c.requires.whole c.args.node)
