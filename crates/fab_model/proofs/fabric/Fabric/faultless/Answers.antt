use Rattle.std.proofs.Common.{subst, sym}
use Rattle.fab_model.specs.WellFormed.{IsFabric}
use Rattle.fab_model.proofs.Faultless.{faultless_make}
use Rattle.fab_model.proofs.fabric.Fabric.faultless.Goals as goal

pub of_rows-requires : goal.of_rows-requires
of_rows-requires c = subst IsFabric (sym c.in_ok-rows.ensures.rows) (faultless_make c.args.raw.now c.in_ok-rows.ensures.kept c.requires)
