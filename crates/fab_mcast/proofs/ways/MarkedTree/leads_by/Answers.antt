use Rattle.fab_escape.specs.Forest.{root_of}
use Rattle.fab_mcast.proofs.MarkedWays.{home_read}
use Rattle.fab_mcast.proofs.ways.MarkedTree.leads_by.Goals as goal

pub next-requires-clause-to : goal.next-requires-clause-to
next-requires-clause-to c =
    let f = c.args.escape.now in
    c.requires.fits.homes_low (root_of f c.args.s.0) c.in-Some.home
    (home_read c.args.self.now.homes.items c.root.result.0 (root_of f c.args.s.0) c.index-2.result.now c.in-Some.home c.root.ensures (c.requires.fits.roots c.args.s.0 c.requires.switch) c.index-2.ensures c.in-Some.is)
