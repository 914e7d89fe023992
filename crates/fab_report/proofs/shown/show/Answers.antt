use Rattle.fab_report.proofs.shown.show.Goals as goal

pub push_route-requires-clause-toward : goal.push_route-requires-clause-toward
push_route-requires-clause-toward c = record { fabric = c.end_of-end.ensures.kept; fits = c.requires.fits.tables; in_use = c.requires.in_use }
