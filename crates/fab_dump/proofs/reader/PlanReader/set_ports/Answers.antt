use Rattle.std.proofs.Common.{length, refl, ap, ◌∙◌, Some, arith}
use Rattle.fab_model.specs.Topology.{Topology, lids_of}
use Rattle.fab_dump.specs.declared.form.Block.TheVariants.{Table}
use Rattle.fab_dump.specs.Given.Given.{Port}
use Rattle.fab_dump.proofs.Reading.LongRows.{told_none, told_one, told_all}
use Rattle.fab_dump.proofs.reader.PlanReader.set_ports.Goals as goal

pub loop-index-init : goal.loop-index-init
loop-index-init c = record {
  fits = c.requires.fits;
  fabric = refl;
  block = c.requires.block;
  told = told_none c.args.self.now (Table (Some c.args.switch)) (Port c.args.switch.0) c.args.first c.args.ports.now c.requires.block;
}

pub loop-index-preserved : goal.loop-index-preserved
loop-index-preserved c = record {
  fits = c.set_port.ensures.fits;
  fabric = c.set_port.ensures.fabric ∙ c.loop-index.invariant.fabric;
  block = c.set_port.ensures.block;
  told = told_one c.args.self.now (Table (Some c.args.switch)) (Port c.args.switch.0) c.args.first c.args.ports.now c.loop-index.self c.set_port.new.self 0 c.loop-index.index c.requires.within (omega arith) c.set_port.ensures.stands c.loop-index.invariant.told;
}

pub returns : goal.returns
returns c = told_all c.args.self.now (Table (Some c.args.switch)) (Port c.args.switch.0) c.args.first c.args.ports.now c.loop-index.self c.loop-index.index (omega arith) c.loop-index.invariant.told

pub set_port-requires-clause-within : goal.set_port-requires-clause-within
set_port-requires-clause-within c =
    let same = ap (λ (t : Topology). length (lids_of t)) c.loop-index.invariant.fabric in
    omega (arith, same, c.requires.within)
