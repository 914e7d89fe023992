use Rattle.std.proofs.Common.{◌∙◌, sym, ap, arith, false, ◌<◌, length, replicate}
use Rattle.std.proofs.lemmas.List.{get_or_read}
use Rattle.fab_dump.specs.declared.fault.PlanFault.TheVariants.{TwiceBlock}
use Rattle.fab_dump.specs.Given.Given.{LevelBlock}
use Rattle.fab_dump.proofs.Reading.AfterHeads.{after_levels_head, new_added}
use Rattle.fab_dump.proofs.reader.PlanReader.open_levels.Goals as goal

pub returns : goal.returns
returns c = λ f s stands orderly.
    let switch = c.args.switch.0 in
    let blocks = c.args.self.now.level_blocks.items in
    let within : switch < length blocks = omega (arith, c.requires.switch, c.requires.fits.level_marks) in
    let mark = get_or_read blocks switch c.index.result.now within c.index.ensures false in
    let new = sym (stands.levels switch c.requires.switch) ∙ sym mark ∙ c.if-index.false in (
      _,
      new_added (TwiceBlock c.args.line) s _ (LevelBlock switch) new,
      after_levels_head f s c.args.self.now stands c.args.switch c.fill.new.self orderly new c.requires.switch (c.fill.ensures.items (λ y same. same) ∙ ap (λ n. replicate n false) c.args.self.now.lids_read.ok.0),
    )
