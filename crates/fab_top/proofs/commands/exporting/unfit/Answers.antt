use Rattle.fab_top.proofs.Exporting.{unfit_found, reason_of, can_be_told}
use Rattle.fab_top.proofs.commands.exporting.unfit.Goals as goal

pub unfit_text-requires : goal.unfit_text-requires
unfit_text-requires c =
    can_be_told c.args.fabric.now c.args.plan.now c.args.part c.args.reason c.requires.fits
    (reason_of c.args.fabric.now c.args.plan.now c.args.part c.args.reason c.requires.first c.in_default.not-Memory)

pub returns : goal.returns
returns c =
    unfit_found c.args.part c.args.fabric.now c.args.plan.now c.args.reason _ _ c.requires.fabric c.requires.fits
    (reason_of c.args.fabric.now c.args.plan.now c.args.part c.args.reason c.requires.first c.in_default.not-Memory)
    c.in_ok-text.ensures c.no.ensures.answer c.no.ensures.can_be_put
