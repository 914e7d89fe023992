use Rattle.std.proofs.Common.{◌≡◌, ◌∙◌, sym, Some}
use Rattle.std.proofs.lemmas.Bool.{false≢true}
use Rattle.fab_escape.proofs.ParentChannels.{eq_some, some_eq}
use Rattle.fab_tables.specs.Fit.{IsSource}
use Rattle.fab_nue.specs.Kept.{old_level}
use Rattle.fab_nue.proofs.Keeping.Parts.{part_begins, part_more, part_stays}
use Rattle.fab_nue.proofs.parts.write_part.Goals.{then-has_terminal+then-eq, else-has_terminal, else-has_terminal-via-then-has_terminal+else-eq, else-has_terminal-via-else-has_terminal}
use Rattle.fab_nue.proofs.parts.write_part.Goals as goal

pub loop-s-init : goal.loop-s-init
loop-s-init c = rw c.unsettle_all.ensures.empty (part_begins c.args.fabric.now c.args.old.now c.args.lid.0 c.args.level c.args.whole.now c.requires.whole.each_switch)

pub loop-s-preserved : goal.loop-s-preserved
loop-s-preserved c =
    let t = c.args.fabric.now in
    let old = c.args.old.now in
    let lid = c.args.lid.0 in
    let level = c.args.level in
    let s = c.loop-s.s in
    let whole = c.args.whole.now in
    let part = c.loop-s.part in
    elim c.if-has_terminal.branch [
      | then-has_terminal+then-eq w ↦
          (let source : IsSource t s = sym c.has_terminal.ensures ∙ w.if-has_terminal.true in
          let at : old_level old.lanes s lid ≡ Some level = sym w.old_level.ensures ∙ eq_some w.old_level.result level (sym w.eq.ensures ∙ w.if-eq.true) in
          let new = w.copy_way.ensures in
          rw w.part-is (part_more t old lid level s whole part c.loop-s.invariant w.copy_way.new.part source at new.each_switch new.taken new.kept new.only))
      | else-has_terminal w ↦ (elim w.else-has_terminal.branch [
        | else-has_terminal-via-then-has_terminal+else-eq w' ↦
            (rw w.part-is (part_stays t old lid level s whole part c.loop-s.invariant
            (λ both. false≢true (sym w'.if-eq.false ∙ w'.eq.ensures ∙ some_eq w'.old_level.result level (w'.old_level.ensures ∙ both.1)))))
        | else-has_terminal-via-else-has_terminal w' ↦
            (rw w.part-is (part_stays t old lid level s whole part c.loop-s.invariant (λ both. false≢true (sym w'.if-has_terminal.false ∙ c.has_terminal.ensures ∙ both.0))))
      ])
    ]
