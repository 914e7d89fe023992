use Rattle.std.proofs.Common.{◌≡◌, length, sym, ap, ◌∙◌, subst}
use Rattle.std.specs.Prelude.{if◌then◌else◌}
use Rattle.fab_dump.specs.declared.form.Block.TheVariants.{Nothing, Pairs}
use Rattle.fab_dump.specs.Lines.{map_row, has_pairs, after_map_row}
use Rattle.fab_dump.specs.Standing.{IsWithin}
use Rattle.fab_dump.proofs.Reading.AfterRows.{after_map}
use Rattle.fab_dump.proofs.Reading.LaneBlocks.{block_after_map}
use Rattle.fab_dump.proofs.reader.PlanReader.map_row.Goals as goal
use Rattle.fab_dump.proofs.reader.PlanReader.map_row.Goals.{then-has_pairs, else-has_pairs}

pub returns : goal.returns
returns c = λ f s stands orderly.
    let t = c.args.self.now.fabric.now in
    let switch = c.args.switch in
    let pairs = c.has_pairs.ensures ∙ ap has_pairs stands.version in
    let block : c.if-has_pairs.self ≡ after_map_row f switch.0 = elim c.if-has_pairs.branch [
      | then-has_pairs w ↦ block_after_map f switch c.has_pairs.result c.if-has_pairs.self pairs (w.self-is ∙ ap (λ b. if b then Pairs switch else Nothing) (sym w.if-has_pairs.true))
      | else-has_pairs w ↦ block_after_map f switch c.has_pairs.result c.if-has_pairs.self pairs (w.self-is ∙ ap (λ b. if b then Pairs switch else Nothing) (sym w.if-has_pairs.false))
    ] in (
      _,
      ap (map_row f c.args.line s switch.0) (sym c.in-Some.ensures.lanes),
      after_map f s c.args.self.now stands switch c.in-Some.map c.give_map.new.plan c.if-has_pairs.self (subst (IsWithin (length t.switches)) c.requires.block c.requires.fits.block) c.give_map.ensures block,
    )
