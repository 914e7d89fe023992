use Rattle.std.proofs.Common.{refl}
use Rattle.fab_top.proofs.Exporting.{part_found, fit_of}
use Rattle.fab_top.proofs.commands.exporting.exported.Goals as goal

pub returns-in-Ok : goal.returns-in-Ok
returns-in-Ok c =
    part_found c.args.part c.args.fabric c.args.plan _ c.requires.fabric c.requires.fits
    (fit_of c.args.fabric c.args.plan c.args.part c.check_fit.result c.in-Ok.field-0 c.check_fit.ensures c.in-Ok.is) refl
