use Rattle.std.proofs.Common.{length, refl, ap, ◌∙◌, None, arith}
use Rattle.fab_model.specs.Topology.{Topology, lids_of}
use Rattle.fab_dump.specs.declared.form.Block.TheVariants.{Levels}
use Rattle.fab_dump.specs.Given.Given.{Level}
use Rattle.fab_dump.proofs.Reading.LongRows.{told_none, told_one, told_all}
use Rattle.fab_dump.proofs.reader.PlanReader.set_levels.Goals as goal

pub loop-index-init : goal.loop-index-init
loop-index-init c = record {
  fits = c.requires.fits;
  fabric = refl;
  block = c.requires.block;
  told = told_none c.args.self.now (Levels c.args.switch) (Level c.args.switch.0) c.args.first c.args.levels.now c.requires.block;
}

pub loop-index-preserved : goal.loop-index-preserved
loop-index-preserved c = record {
  fits = c.set_level.ensures.fits;
  fabric = c.set_level.ensures.fabric ∙ c.loop-index.invariant.fabric;
  block = c.set_level.ensures.block;
  told = told_one c.args.self.now (Levels c.args.switch) (Level c.args.switch.0) c.args.first c.args.levels.now c.loop-index.self c.set_level.new.self None c.loop-index.index c.requires.within (omega arith) c.set_level.ensures.stands c.loop-index.invariant.told;
}

pub returns : goal.returns
returns c = told_all c.args.self.now (Levels c.args.switch) (Level c.args.switch.0) c.args.first c.args.levels.now c.loop-index.self c.loop-index.index (omega arith) c.loop-index.invariant.told

pub set_level-requires-clause-within : goal.set_level-requires-clause-within
set_level-requires-clause-within c =
    let same = ap (λ (t : Topology). length (lids_of t)) c.loop-index.invariant.fabric in
    omega (arith, same, c.requires.within)
