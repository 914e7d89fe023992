use Rattle.std.proofs.Common.{◌∙◌, sym, arith, false, ◌<◌, length}
use Rattle.std.proofs.lemmas.List.{get_or_read}
use Rattle.fab_dump.specs.declared.fault.PlanFault.TheVariants.{TwiceBlock}
use Rattle.fab_dump.specs.Given.Given.{MapBlock}
use Rattle.fab_dump.proofs.Reading.AfterHeads.{after_map_head, new_added}
use Rattle.fab_dump.proofs.reader.PlanReader.open_map.Goals as goal

pub returns : goal.returns
returns c = λ f s stands orderly.
    let switch = c.args.switch.0 in
    let blocks = c.args.self.now.map_blocks.items in
    let within : switch < length blocks = omega (arith, c.requires.switch, c.requires.fits.map_marks) in
    let mark = get_or_read blocks switch c.index.result.now within c.index.ensures false in
    let new = sym (stands.maps switch c.requires.switch) ∙ sym mark ∙ c.if-index.false in (
      _,
      new_added (TwiceBlock c.args.line) s _ (MapBlock switch) new,
      after_map_head f s c.args.self.now stands c.args.switch c.requires.switch,
    )
