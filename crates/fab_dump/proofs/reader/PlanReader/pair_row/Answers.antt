use Rattle.std.proofs.Common.{sym, ap, ◌∙◌, Err, Bool, Result}
use Rattle.fab_tables.specs.declared.lanes.PairFault.{PairFault}
use Rattle.fab_dump.specs.Lines.{adds_pair}
use Rattle.fab_dump.proofs.Reading.AfterRows.{after_pair}
use Rattle.fab_dump.proofs.Reading.LaneBlocks.{pair_goes, pair_twice, pair_too_many}
use Rattle.fab_dump.proofs.reader.PlanReader.pair_row.Goals as goal

pub returns-in-Ok-true : goal.returns-in-Ok-true
returns-in-Ok-true c = λ f s stands orderly.
    let t = c.args.self.now.fabric.now in
    let r = c.args.self.now in (
      _,
      ap (adds_pair c.args.line s c.args.switch.0) (sym c.in-Some.ensures.row)
          ∙ pair_goes f s r stands orderly c.args.switch c.args.line c.in-Some.row c.requires.block c.in-Ok-true.field-0 c.in-Ok-true.field-0-test c.in-Ok-true.ensures.fresh c.in-Ok-true.ensures.room,
      after_pair f s r stands c.args.switch c.in-Some.row c.give_pair.new.plan c.requires.block c.in-Ok-true.ensures.ok,
    )

pub returns-in-Ok-false : goal.returns-in-Ok-false
returns-in-Ok-false c = λ f s stands orderly.
    ap (adds_pair c.args.line s c.args.switch.0) (sym c.in-Some.ensures.row)
    ∙ pair_twice f s c.args.self.now stands orderly c.args.switch c.args.line c.in-Some.row c.requires.block c.in-Ok-false.field-0 c.in-Ok-false.field-0-test c.in-Ok-false.ensures.fresh

abbrev the_error : PairFault → Result Bool PairFault
the_error e = Err e

pub returns-in-Err-TooMany : goal.returns-in-Err-TooMany
returns-in-Err-TooMany c = λ f s stands orderly.
    ap (adds_pair c.args.line s c.args.switch.0) (sym c.in-Some.ensures.row)
    ∙ pair_too_many f s c.args.self.now stands orderly c.args.switch c.args.line c.in-Some.row c.requires.block (c.in-Err-TooMany.ensures.too_many (ap (λ (e : PairFault). the_error e) c.in-Err-TooMany.field-0-is))
