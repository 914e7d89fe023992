use Rattle.fab_sweep.proofs.SweepRows.{repairs_certified}
use Rattle.fab_sweep.proofs.rows.sweep.Goals.{in-Cables+in_ok-list-in-Cables, in-Switches+in_ok-list-in-Switches}
use Rattle.fab_sweep.proofs.rows.sweep.Goals as goal

pub returns-clause-certified : goal.returns-clause-certified
returns-clause-certified c = elim c.match-what.branch [
  | in-Cables+in_ok-list-in-Cables w ↦ repairs_certified c.args.fabric.now c.args.plan.now c.args.lanes c.args.what w.in_ok-list-in-Cables.ensures.fabric c.requires.lanes.0 c.requires.lanes.1
  | in-Switches+in_ok-list-in-Switches w ↦ repairs_certified c.args.fabric.now c.args.plan.now c.args.lanes c.args.what w.in_ok-list-in-Switches.ensures.fabric c.requires.lanes.0 c.requires.lanes.1
]
