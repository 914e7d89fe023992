use Rattle.std.proofs.Common.{sym, ap, ◌∙◌, []}
use Rattle.fab_dump.specs.declared.fault.PlanFault.TheVariants.{TwiceRow}
use Rattle.fab_dump.specs.declared.form.Block.TheVariants.{Numbers}
use Rattle.fab_dump.specs.Given.Given.{Number}
use Rattle.fab_dump.specs.Lines.{adds_number}
use Rattle.fab_dump.proofs.Reading.AfterHeads.{new_added, old_refused}
use Rattle.fab_dump.proofs.Reading.AfterRows.{after_number}
use Rattle.fab_dump.proofs.Reading.LaneBlocks.{number_mark}
use Rattle.fab_dump.proofs.reader.PlanReader.number_row.Goals as goal

pub returns-then-has_number : goal.returns-then-has_number
returns-then-has_number c = λ f s stands orderly.
    let t = c.args.self.now.fabric.now in
    let channel = c.in-Some.channel.0 in
    let lane = c.in-Some.lane in
    let mark = number_mark f s c.args.self.now stands orderly channel lane c.has_number.result c.requires.block c.in-Some.ensures.channel c.in-Some.ensures.lane c.has_number.ensures in
    ap (adds_number c.args.line s) (sym c.in-Some.ensures.row) ∙ old_refused (TwiceRow c.args.line) s Numbers (Number channel lane c.in-Some.number) [] (sym mark ∙ c.if-has_number.true)

pub returns : goal.returns
returns c = λ f s stands orderly.
    let t = c.args.self.now.fabric.now in
    let channel = c.in-Some.channel.0 in
    let lane = c.in-Some.lane in
    let mark = number_mark f s c.args.self.now stands orderly channel lane c.has_number.result c.requires.block c.in-Some.ensures.channel c.in-Some.ensures.lane c.has_number.ensures in (
      _,
      ap (adds_number c.args.line s) (sym c.in-Some.ensures.row) ∙ new_added (TwiceRow c.args.line) s Numbers (Number channel lane c.in-Some.number) (sym mark ∙ c.if-has_number.false),
      after_number f s c.args.self.now stands channel lane c.in-Some.number c.give_number.new.plan c.requires.block c.give_number.ensures,
    )
