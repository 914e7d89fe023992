use Rattle.std.proofs.Common.{◌<◌, ◌+◌, [], ◌∷◌, ◌++◌, ap, ◌∙◌, arith}
use Rattle.std.specs.Prelude.{◌/◌, ◌%◌}
use Rattle.std.proofs.lemmas.Nat.{mul-add-lt, div_below, mod_below}
use Rattle.fab_model.specs.declared.rows.ChannelRow.{ChannelRow}
use Rattle.fab_report.specs.Cabling.{cable}
use Rattle.fab_report.specs.Recipes.{torus_cables_of}
use Rattle.fab_report.proofs.Cabling.Growing.{two_more, grows}
use Rattle.fab_report.proofs.cables.torus_cables.Goals as goal

pub at_grid-right-requires : goal.at_grid-right-requires
at_grid-right-requires c =
    let a = c.args.columns in
    let s = c.loop-s.s in
    let y : s / a < c.args.rows = div_below s a c.args.rows (omega (arith, c.requires.columns)) (omega (arith, c.loop-s-test.true)) in
    omega (arith, mul-add-lt (s / a) a ((s % a + 1) % a) c.args.rows y (mod_below (s % a + 1) a c.requires.columns), c.requires.switches)

pub at_grid-below-requires : goal.at_grid-below-requires
at_grid-below-requires c =
    let a = c.args.columns in
    let s = c.loop-s.s in
    omega (arith, mul-add-lt ((s / a + 1) % c.args.rows) a (s % a) c.args.rows (mod_below (s / a + 1) c.args.rows c.requires.rows) (mod_below s a c.requires.columns), c.requires.switches)

pub loop-s-preserved : goal.loop-s-preserved
loop-s-preserved c =
    let a = c.args.columns in
    let b = c.args.rows in
    let s = c.loop-s.s in
    grows (torus_cables_of a b) s c.loop-s.cables.items c.push-in-loop-s.new.self.items c.loop-s.invariant
    (two_more c.loop-s.cables.items c.push.new.self.items c.push-in-loop-s.new.self.items _ _
    (c.in_ok-push.ensures.items ∙ ap (λ (r : ChannelRow). c.loop-s.cables.items ++ r ∷ []) (c.cable.ensures ∙ ap (λ other. cable s 1 other 2) c.at_grid-right.ensures))
    (c.in_ok-push-2.ensures.items ∙ ap (λ (r : ChannelRow). c.push.new.self.items ++ r ∷ []) (c.cable-in-loop-s.ensures ∙ ap (λ other. cable s 3 other 4) c.at_grid-below.ensures)))
