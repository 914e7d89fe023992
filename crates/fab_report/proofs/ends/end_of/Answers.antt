use Rattle.fab_tables.proofs.Paths.Ways.{goes_on}
use Rattle.fab_report.proofs.ends.end_of.Goals as goal

pub loop-preserved : goal.loop-preserved
loop-preserved c = (
  tt,
  tt,
  goes_on c.args.fabric.now c.args.tables.now c.args.lid.0 (record { fabric = c.follow-route.ensures.kept; fits = c.requires.fits; in_use = c.requires.in_use }) c.args.from.0 c.loop.route c.next.new.self c.in-Some.field-0 c.loop.invariant.2 c.in-Some.ensures.steps,
)
